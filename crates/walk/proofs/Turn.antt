-- The loop of `leave` over the spans of a leaving.
use Rattle.std.proofs.Common.{ℕ, suc, ◌+◌, ◌-◌, ◌≤◌, ◌<◌, arith, ◌≡◌, ap, ◌∙◌, List, [], ◌∷◌, map}
use Rattle.kernel.specs.Rules.{JobSet, Kind}
use Rattle.kernel.specs.Held.{set_of, Loaded}
use Rattle.kernel.specs.Laws.Control.{Lawful, Control, weight, after}
use Rattle.orders.specs.Orders.{Forest}
use Rattle.orders.specs.Laws.Box.{Span, spans, child}
use Rattle.orders.specs.Laws.Spans.{reach, span, spans_end, spans_next, spans_fuel, above_after}
use Rattle.orders.specs.Laws.Walk.{hang, grow}
use Rattle.kernel.specs.declared.kind.Kind.{Kind as CodeKind}
use Rattle.walk.specs.Switches.{SwitchAsk, SpanAsk, Spanned}
use Rattle.walk.specs.Descent.{jobs_of, Kept, Wrote, Writes, High, Twig, HangAsk, Hung}
use Rattle.walk.proofs.Keeping.{kept_all, kept_on}
use Rattle.walk.specs.Laws.Keyed.{out_later}
use Rattle.walk.specs.Laws.Forests.{hang_none}
use Rattle.walk.specs.Laws.Writing.{wrote_none, wrote_append}
use Rattle.walk.specs.Laws.Ticks.{high_switch}
use Rattle.walk.specs.Laws.Twigs.{AfterLeaving, span_twig, span_last}
use Rattle.walk.specs.declared.switches.Switch.{Switch}
use Rattle.walk.specs.declared.descent.Walk.{Walk}
use Rattle.walk.specs.declared.choice.Known.{Known}
use Rattle.walk.specs.declared.counts.Counts.{Counts}

-- the switches of the ticks of leaving from t to top, with all that may follow
abbrev pub leavings : JobSet → (depth : ℕ) → Kind → Control → (least most : ℕ → ℕ → ℕ) → (top t : ℕ) → Forest
leavings J depth kind κ least most top t = hang (grow J (depth - 1)) (map (child J kind κ least most) (spans J κ top (suc top - t) t))

-- what the loop stands on
pub record Leaves (o : Walk) (coded : CodeKind) (early latest depth : ℕ) (known : Known) : Type 0 where
  pub next : SwitchAsk (jobs_of o) o.state known early
  pub kind : Kind
  pub control : Control
  pub least : ℕ → ℕ → ℕ
  pub most : ℕ → ℕ → ℕ
  pub after : AfterLeaving (jobs_of o) o.state coded early kind control least most
  pub high : High latest (depth - 1)

-- before the switches from tick t on: the row is as at the start, and to walk what remains is to walk the whole, of whatever the row stands for
pub record Turn (o : Walk) (coded : CodeKind) (early latest parent depth : ℕ) (known : Known) (n : Walk) (t : ℕ) : Type 0 where
  pub leaves : Leaves o coded early latest depth known
  pub kept : Kept o n
  pub from : early ≤ t
  pub rest : (kind : Kind) (κ : Control) (least most : ℕ → ℕ → ℕ) → AfterLeaving (jobs_of o) o.state coded early kind κ least most → (b' : List ℕ) (c' : Counts)
      → Wrote (set_of (jobs_of o)) (leavings (set_of (jobs_of o)) depth kind κ least most latest t) parent o.cap n.words.now n.seen b' c'
      → Wrote (set_of (jobs_of o)) (leavings (set_of (jobs_of o)) depth kind κ least most latest early) parent o.cap o.words.now o.seen b' c'

pub turn_start : {o : Walk} {coded : CodeKind} {early latest parent depth : ℕ} {known : Known} → Leaves o coded early latest depth known → Turn o coded early latest parent depth known o early
turn_start {o} A = record { leaves = A; kept = kept_all o; from = omega arith; rest = λ kind κ least most T b' c' W. W }

-- the spans one by one
spans_step : (J : JobSet) → Lawful J → (κ : Control) (top t : ℕ) → t ≤ top
    → spans J κ top (suc top - t) t ≡ span J κ top t ∷ spans J κ top (suc top - reach J κ top t) (reach J κ top t)
spans_step J L κ top t h =
    let e : suc top - t ≡ suc (top - t) = omega arith in
    let q : t < reach J κ top t = above_after J L κ t _ (suc top) (omega arith) in
    ap (λ (f : ℕ). spans J κ top f t) e ∙ spans_next J κ top (top - t) t h
    ∙ ap (λ (l : List Span). span J κ top t ∷ l) (spans_fuel J L κ top (top - t) (suc top - reach J κ top t) (reach J κ top t) (omega arith) (omega arith))

module _ {o : Walk} {coded : CodeKind} {early latest parent depth : ℕ} {known : Known} {n : Walk} {t : ℕ} (T : Turn o coded early latest parent depth known n t) where
  abbrev J : JobSet
  J = set_of (jobs_of o)

  loaded : Loaded (jobs_of o)
  loaded = o.set.now.loaded

  -- no span is left
  pub turn_end : {kind : Kind} {κ : Control} {least most : ℕ → ℕ → ℕ} → latest < t → AfterLeaving (jobs_of o) o.state coded early kind κ least most
      → Writes o n parent (leavings J depth kind κ least most latest early)
  turn_end {κ = κ} h A = T.rest _ _ _ _ A n.words.now n.seen
      (rw (spans_end J κ latest (suc latest - t) t h, hang_none (grow J (depth - 1))) (wrote_none (rw T.kept.cap at n.room)))

  module _ (h : t ≤ latest) where
    pub turn_span : SpanAsk (jobs_of n) n.state known t latest
    turn_span = rw (T.kept.set, T.kept.state) (record {
      switch = record { first = T.leaves.next.first; out = out_later T.from T.leaves.next.out };
      control = T.leaves.control;
      keyed = T.leaves.after.stands.keyed;
      order = h;
      small = omega (arith, T.leaves.high.near);
    })

    module _ {x : Switch} (X : Spanned (jobs_of n) n.state coded t latest x) where
      twig : {kind : Kind} {κ : Control} {least most : ℕ → ℕ → ℕ} → AfterLeaving (jobs_of o) o.state coded early kind κ least most
          → Twig (jobs_of o) o.state x kind κ least most (span J κ latest t)
      twig {κ = κ} A = span_twig loaded A T.from h ((rw (T.kept.set, T.kept.state) at X).spanned κ A.stands.keyed)

      -- where the span ends
      pub turn_last : (t ≤ x.last) × (x.last ≤ latest)
      turn_last =
          let A = T.leaves in
          let (p, q) = span_last loaded A.after h in
          let e = ap (λ (y : Switch). y.last) (twig A.after).switch in
          (omega arith, omega arith)

      pub turn_less : latest + 1 - (x.last + 1) < latest + 1 - t
      turn_less = omega (arith, turn_last)

      pub turn_hang : HangAsk n x (depth - 1) known
      turn_hang =
          let A = T.leaves in
          let G = twig A.after in
          rw (T.kept.set, T.kept.state) (record {
            next = record { first = A.next.first; out = out_later (omega (arith, T.from, ap (λ (y : Switch). y.from) G.switch)) A.next.out };
            kind = A.kind;
            control = A.control;
            least = A.least;
            most = A.most;
            span = span J A.control latest t;
            twig = G;
            high = rw G.switch (high_switch loaded A.high (span_last loaded A.after h).1 G.inside);
          })

      -- the next span begins after it
      next_span : {kind : Kind} {κ : Control} {least most : ℕ → ℕ → ℕ} → AfterLeaving (jobs_of o) o.state coded early kind κ least most
          → x.last + 1 ≡ reach J κ latest t
      next_span {κ = κ} A = omega (
        arith,
        ap (λ (y : Switch). y.last) (twig A).switch,
        above_after J loaded.lawful κ t (weight J κ (after J κ t)) (suc latest) (omega arith),
      )

      -- the span is walked
      module _ {m : Walk} (H : Hung n m x parent (depth - 1)) where
        walked : {kind : Kind} {κ : Control} {least most : ℕ → ℕ → ℕ} → AfterLeaving (jobs_of o) o.state coded early kind κ least most
            → Wrote J (hang (grow J (depth - 1)) (child J kind κ least most (span J κ latest t) ∷ [])) parent o.cap n.words.now n.seen m.words.now m.seen
        walked {kind} {κ} {least} {most} A =
            rw (T.kept.set, T.kept.cap) at (H.wrote kind κ least most (span J κ latest t) (rw (T.kept.set, T.kept.state) (twig A)))

        one_more : {kind : Kind} {κ : Control} {least most : ℕ → ℕ → ℕ} {b'' : List ℕ} {c'' : Counts}
            → AfterLeaving (jobs_of o) o.state coded early kind κ least most
            → Wrote J (leavings J depth kind κ least most latest (x.last + 1)) parent o.cap m.words.now m.seen b'' c''
            → Wrote J (leavings J depth kind κ least most latest t) parent o.cap n.words.now n.seen b'' c''
        one_more {kind} {κ} {least} {most} A W = rw (spans_step J loaded.lawful κ latest t h)
            (wrote_append (grow J (depth - 1)) (child J kind κ least most (span J κ latest t) ∷ []) _
            (walked A) (rw (next_span A) at W))

        pub turn_more : Turn o coded early latest parent depth known m (x.last + 1)
        turn_more = record {
          leaves = T.leaves;
          kept = kept_on T.kept H.kept;
          from = omega (arith, T.from, turn_last);
          rest = λ kind κ least most A b'' c'' W. T.rest kind κ least most A b'' c'' (one_more A W);
        }
