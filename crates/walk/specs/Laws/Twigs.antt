-- The switches that a walk goes down: what the row stands for before a switch by leaving or by a cut, and after its dispatch.
use Rattle.walk.specs.declared.state.Standing.{Standing}
use Rattle.kernel.specs.declared.jobs.Jobs.{Jobs}
use Rattle.std.specs.Prelude.{ℕ, ◌+◌, ◌-◌, ◌≤◌, ◌<◌, max, ◌≡◌, true, Some, None}
use Rattle.std.proofs.Common.{arith, sym, ◌∙◌, ap, List, [], ◌∷◌, ◌++◌}
use Rattle.kernel.specs.Rules.{JobSet, Kind, CUT}
use Rattle.kernel.specs.Code.{kind_of}
use Rattle.kernel.specs.Held.{set_of, Loaded}
use Rattle.kernel.specs.Laws.Tests.{split, if-lt, if-ge}
use Rattle.kernel.specs.Laws.Places.{put_same, put2}
use Rattle.kernel.specs.Laws.Pick.{disp}
use Rattle.kernel.specs.Laws.Control.{Control, Lawful, leave, mark, after, released}
use Rattle.kernel.specs.Laws.Step.{State, dispatch, present, leave_kind_of}
use Rattle.orders.specs.Laws.Lists.{All}
use Rattle.orders.specs.Laws.Box.{Box, Under, Child, Span, child, early, late, latest, leaves, cut_span, cut_child, cuts, children, Sound}
use Rattle.orders.specs.Laws.Spans.{SpanOk, span, spans_ok, spans_next}
use Rattle.orders.specs.Laws.Child.{Fits, Owes, child_fits, under_both}
use Rattle.orders.specs.Laws.Exact.{fits}
use Rattle.std.proofs.Math.ListN.{set}
use Rattle.kernel.specs.declared.kind.Kind.{Kind as CodeKind}
use Rattle.kernel.specs.declared.kind.Kind.TheVariants.{Cut as CodeCut}
use Rattle.walk.specs.State.{standing_at, begun_at, resumed_as, cut_as, Stands}
use Rattle.walk.specs.Choice.{job_in}
use Rattle.walk.specs.Switches.{switch_of, switch_for}
use Rattle.walk.specs.Descent.{Twig, Rep}
use Rattle.walk.specs.Laws.Moves.{leave_stands, dispatch_stands, cut_stands}
use Rattle.walk.specs.declared.switches.Switch.{Switch}

-- a dispatch is of a job of the set, or of none
pub after_inside : (J : JobSet) → Lawful J → (κ : Control) (t : ℕ) → after J κ t ≤ J.jobs
after_inside J L κ t = (disp _ _ _ (released J L κ) t).inside

later_ones : (P : Child → Type 0) (xs ys : List Child) → All P (xs ++ ys) → All P ys
later_ones P [] ys a = a
later_ones P (x ∷ xs) ys a = later_ones P xs ys a.1

-- the limits after a cut
abbrev pub cut_least : JobSet → State → Box → ℕ → ℕ → ℕ
cut_least J S B = put2 B.least S.job (present S) (max 1 (early J S B - latest J S B))

abbrev pub cut_most : JobSet → State → Box → ℕ → ℕ → ℕ
cut_most J S B = put2 B.most S.job (present S) (late J S B - latest J S B)

-- the switch of a span, by the kind that it has itself
pub own_kind : (J : JobSet) (p : Span) {x : Switch} {coded : CodeKind} → x ≡ switch_of J coded p → x ≡ switch_of J x.kind p
own_kind J p e = e ∙ ap (λ (y : Switch). switch_of J y.kind p) (sym e)

-- ---- after the dispatch

job_some : (J : JobSet) (j : ℕ) {d : ℕ} → job_in J j ≡ Some d → (d ≡ j) × (d < J.jobs)
job_some J j {d} e = split j J.jobs
    (λ (h : j < J.jobs). let q : Some j ≡ Some d = sym (if-lt j J.jobs (Some j) None h) ∙ e in let same : d ≡ j = cc in (same, omega arith))
    (λ (h : J.jobs ≤ j). let q : None ≡ Some d = sym (if-ge j J.jobs (Some j) None h) ∙ e in absurd (cc))

job_none : (J : JobSet) (j : ℕ) → job_in J j ≡ None → J.jobs ≤ j
job_none J j e = split j J.jobs
    (λ (h : j < J.jobs). let q : Some j ≡ None = sym (if-lt j J.jobs (Some j) None h) ∙ e in absurd (cc))
    (λ (h : J.jobs ≤ j). h)

module _ {w : Jobs} {s : List Standing} {x : Switch} {kind : Kind} {κ : Control} {least most : ℕ → ℕ → ℕ} {p : Span} (T : Twig w s x kind κ least most p) where
  abbrev twig : Child
  twig = child (set_of w) kind κ least most p

  pub twig_job : x.job ≡ job_in (set_of w) twig.state.job
  unfolding child dispatch
  twig_job = ap (λ (y : Switch). y.job) T.switch

  -- it names a job, or none is left
  pub twig_some : {d : ℕ} → x.job ≡ Some d → (d ≡ twig.state.job) × (d < (set_of w).jobs)
  twig_some q = job_some (set_of w) twig.state.job (sym twig_job ∙ q)

  pub twig_none : x.job ≡ None → (set_of w).jobs ≤ twig.state.job
  twig_none q = job_none (set_of w) twig.state.job (sym twig_job ∙ q)

  pub twig_from : x.from ≡ twig.box.from
  unfolding child
  twig_from = ap (λ (y : Switch). y.from) T.switch

  pub twig_to : x.to ≡ twig.box.to
  unfolding child
  twig_to = ap (λ (y : Switch). y.to) T.switch

  pub dispatched_rep : {d : ℕ} → Loaded w → x.job ≡ Some d → Rep w (set s d (resumed_as (set_of w) d (standing_at s d))) d twig.state twig.box
  unfolding child dispatch mark
  dispatched_rep {d} L q = let (e, h) = twig_some q in record {
    stands = rw e (dispatch_stands w s L κ least most T.stands p.job (omega (arith, e)));
    sound = T.owes (omega (arith, e));
    job = e;
    on = put_same κ.begun p.job true;
  }

-- ---- after a leaving

-- The row stands for a control and limits from which a switch of a kind is made at tick `early` or later. The code has the kind as `coded`.
pub record AfterLeaving (w : Jobs) (s : List Standing) (coded : CodeKind) (early : ℕ) (kind : Kind) (κ : Control) (least most : ℕ → ℕ → ℕ) : Type 0 where
  pub same_kind : kind_of coded ≡ kind
  pub stands : Stands (set_of w) s κ least most
  pub was : (i : ℕ) → κ.begun i ≡ true → (set_of w).release i ≤ early
  pub order : Under (set_of w) least most

module _ {w : Jobs} {s : List Standing} {coded : CodeKind} {early : ℕ} {kind : Kind} {κ : Control} {least most : ℕ → ℕ → ℕ} (L : Loaded w)
    (A : AfterLeaving w s coded early kind κ least most) where
  first_span_lem : (top t : ℕ) → t ≤ top → SpanOk (set_of w) κ t top (span (set_of w) κ top t)
  first_span_lem top t h = (rw (spans_next (set_of w) κ top 0 t h) at (spans_ok (set_of w) L.lawful κ top 1 t)).0

  -- the switch of the span that begins at t
  pub span_twig : {top t : ℕ} {x : Switch} → early ≤ t → t ≤ top → x ≡ switch_of (set_of w) coded (span (set_of w) κ top t)
      → Twig w s x kind κ least most (span (set_of w) κ top t)
  span_twig {top} {t} h q e = record {
    same_kind = rw e A.same_kind;
    switch = own_kind (set_of w) (span (set_of w) κ top t) e;
    stands = A.stands;
    inside = after_inside (set_of w) L.lawful κ t;
    owes = (child_fits (set_of w) L.lawful kind κ least most (span (set_of w) κ top t) t top (first_span_lem top t q) (λ i b. omega (arith, A.was i b)) A.order).kept;
  }

  pub span_last : {top t : ℕ} → t ≤ top → (t ≤ (span (set_of w) κ top t).last) × ((span (set_of w) κ top t).last ≤ top)
  span_last {top} {t} h = let o = first_span_lem top t h in (o.order, o.high)

module _ {w : Jobs} {s : List Standing} {j : ℕ} {S : State} {B : Box} (L : Loaded w) (R : Rep w s j S B) where
  abbrev J : JobSet
  J = set_of w

  abbrev O : Sound J S B
  O = R.sound

  -- the running job is one of the set's
  pub job_inside : j < J.jobs
  job_inside = omega (arith, R.job, O.inside)

  pub job_fits : j < 32
  job_fits = omega (arith, job_inside, L.few_jobs)

  -- its segment, by the row
  pub present_word : (standing_at s j).segment ≡ present S
  present_word = rw R.job (R.stands.segment S.job O.inside)

  -- job j leaves its segment
  pub after_leaving : {k : ℕ} {coded : CodeKind} → k ≡ (standing_at s j).segment + 1 → kind_of coded ≡ leave_kind_of J S
      → AfterLeaving w (set s j (begun_at J j k)) coded (early J S B) (leave_kind_of J S) (leave S.control S.job)
      (put2 B.least S.job (present S) 0) (put2 B.most S.job (present S) 0)
  after_leaving ek en = record {
    same_kind = en;
    stands = rw (ek, R.job) (leave_stands w s L S.control B.least B.most R.stands S.job O.inside _ (R.stands.segment S.job O.inside) R.on);
    was = unfold leave in λ i b. omega (arith, O.was i b);
    order = under_both J B.least B.most S.job (present S) 0 0 (omega arith) O.order;
  }

  -- ---- a cut

  cut_owes : latest J S B < late J S B → Owes J (cut_child J S B (latest J S B)).state (cut_child J S B (latest J S B)).box
  unfolding children cuts
  cut_owes h =
      let all = later_ones (Fits J) (leaves J S B) (cuts J S B) (fits J L.lawful S B O) in
      (rw (if-lt (latest J S B) (late J S B) (cut_child J S B (latest J S B) ∷ []) [] h) at all).0.kept

  -- job j is cut
  pub after_cut : {t e y : ℕ} → t ≡ latest J S B → e ≡ early J S B → y ≡ late J S B → y - t ≤ 1000000
      → Stands J (set s j (cut_as (standing_at s j) (max 1 (e - t)) (y - t))) S.control (cut_least J S B) (cut_most J S B)
  after_cut et ee ey h =
      rw (et, ee, ey, R.job) (cut_stands w s L S.control B.least B.most R.stands S.job O.inside _ _ (omega arith))

  pub cut_twig : {s' : List Standing} {t : ℕ} {x : Switch} → Stands J s' S.control (cut_least J S B) (cut_most J S B)
      → t ≡ latest J S B → latest J S B < late J S B → x ≡ switch_for J CodeCut t t (after J S.control t)
      → Twig w s' x CUT S.control (cut_least J S B) (cut_most J S B) (cut_span J S (latest J S B))
  cut_twig T e h ex = record {
    same_kind = ap (λ (y : Switch). kind_of y.kind) ex;
    switch = own_kind J (cut_span J S (latest J S B)) (rw e at ex);
    stands = T;
    inside = after_inside J L.lawful S.control (latest J S B);
    owes = unfold cut_child in cut_owes h;
  }
