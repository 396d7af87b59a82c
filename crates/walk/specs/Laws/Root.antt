-- The root of the walk: the row in which no job has begun, and the first dispatch.
use Rattle.walk.specs.declared.state.Standing.{Standing}
use Rattle.kernel.specs.declared.jobs.Jobs.{Jobs}
use Rattle.std.proofs.Common.{ℕ, ◌<◌, max, arith, sym, ap, ◌∙◌, subst}
use Rattle.std.specs.Prelude.{◌≡◌, refl, List}
use Rattle.kernel.specs.Rules.{JobSet, FIRST}
use Rattle.kernel.specs.Log.{nothing}
use Rattle.kernel.specs.Held.{set_of, Loaded}
use Rattle.kernel.specs.Laws.Control.{weight, after}
use Rattle.kernel.specs.Laws.Fall.{unbegun}
use Rattle.kernel.specs.Laws.Step.{dispatch, first_tick}
use Rattle.orders.specs.Laws.Box.{Child, Span, child}
use Rattle.orders.specs.Laws.Child.{Owes}
use Rattle.orders.specs.Laws.Walk.{first_child, enough, the_tree}
use Rattle.orders.specs.Laws.First.{first_fits}
use Rattle.kernel.specs.Code.{kind_of}
use Rattle.kernel.specs.declared.kind.Kind.TheVariants.{First as KindFirst}
use Rattle.walk.specs.State.{standing_at, Unbegun, Stands}
use Rattle.walk.specs.Choice.{Out, First}
use Rattle.walk.specs.Switches.{switch_of, switch_for, Begins}
use Rattle.std.specs.Borrow.{Bor, MutBor}
use Rattle.kernel.specs.declared.accepted.Accepted.{Accepted}
use Rattle.walk.specs.Descent.{High, Twig, HangAsk, Hung}
use Rattle.walk.specs.declared.descent.Walk.{Walk}
use Rattle.walk.specs.Tree.{Passed}
use Rattle.walk.specs.Laws.Moves.{JobStands, all_stand, longest_small}
use Rattle.walk.specs.Laws.Ticks.{release_small}
use Rattle.walk.specs.Laws.Twigs.{after_inside, own_kind}
use Rattle.walk.specs.declared.switches.Switch.{Switch}
use Rattle.walk.specs.declared.counts.Counts.{Counts}
use Rattle.walk.specs.Counts.{no_counts, Room}

-- ---- the first dispatch, as the child of a span

module _ (J : JobSet) where
  -- the first tick, and the job that is dispatched then
  abbrev pub first_span : Span
  first_span = record { first = first_tick J; last = first_tick J; job = after J unbegun 0 }

  abbrev root_child : Child
  root_child = child J FIRST unbegun J.shortest J.longest first_span

  pub root_child_lem : root_child ≡ first_child J
  unfolding child
  root_child_lem =
      let start : max (first_tick J) (J.release (after J unbegun 0)) ≡ first_tick J = omega arith in
      λ i. record {
        kind = FIRST;
        first = first_tick J;
        last = first_tick J;
        state = dispatch unbegun (after J unbegun 0);
        box = record { from = start i; to = start i; least = J.shortest; most = J.longest };
      }

-- ---- the row in which no job has begun

-- nothing is known of the jobs yet
pub none_out : {w : Jobs} {t : ℕ} → Out w t 0
none_out = record { inside = omega arith; out = λ i (h : i < 0). absurd (omega arith) }

module _ (w : Jobs) (s : List Standing) (L : Loaded w) (U : Unbegun (set_of w) s) where
  abbrev J : JobSet
  J = set_of w

  new_stands : (i : ℕ) → i < J.jobs → JobStands J unbegun J.shortest J.longest i (standing_at s i)
  unfolding weight unbegun
  new_stands i h = rw (U.jobs i (omega (arith, L.few_jobs))) (record { key = refl; segment = refl; low = refl; high = refl; small = longest_small w L i 0 h })

  pub root_stands : Stands J s unbegun J.shortest J.longest
  root_stands = all_stand J s unbegun J.shortest J.longest U.size new_stands (λ i k h q. refl) (λ i k h q. refl)

  module _ (x : Switch) (F : Begins w s x) where
    -- the first dispatch is a switch at its own tick
    root_switch : x ≡ switch_of J KindFirst (first_span J)
    root_switch =
        let d : ℕ = after J unbegun 0 in
        let tick : J.release d ≡ first_tick J = omega arith in
        F.begins unbegun root_stands.keyed ∙ λ i. switch_for J KindFirst (tick i) (tick i) d

    root_owes : Owes J (root_child J).state (root_child J).box
    root_owes = subst (λ (y : Child). Owes J y.state y.box) (sym (root_child_lem J)) (first_fits J L.lawful).kept

    pub root_twig : Twig w s x FIRST unbegun J.shortest J.longest (first_span J)
    root_twig = record { same_kind = ap (λ (y : Switch). kind_of y.kind) root_switch; switch = own_kind J (first_span J) root_switch; stands = root_stands; inside = after_inside J L.lawful unbegun 0; owes = root_owes }

    root_high : High x.to (enough J)
    root_high =
        let tick = release_small w L (after J unbegun 0) (after_inside J L.lawful unbegun 0) in
        let to = ap (λ (y : Switch). y.to) root_switch in
        record { near = omega (arith, L.few_segments, L.few_jobs); deep = omega (arith, L.few_segments, L.few_jobs) }

module _ (set : Bor Accepted) (s : List Standing) (U : Unbegun (set_of set.now.jobs) s) (x : Switch) (F : Begins set.now.jobs s x) where
  abbrev w : Jobs
  w = set.now.jobs

  -- a walk at the root
  abbrev pub start : (b : MutBor (List ℕ)) (c : Counts) (cap : ℕ) → Room c cap → Walk
  start b c cap r = record { set = set; words = b; state = s; seen = c; cap = cap; room = r }

  -- what the descent asks there
  pub root_ask : (b : MutBor (List ℕ)) (c : Counts) (cap depth next : ℕ) (r : Room c cap) → depth ≡ enough (set_of w) → First w s next
      → HangAsk (start b c cap r) x depth (record { first = next; released = 0 })
  root_ask b c cap depth next r e N = rw e (record {
    next = record { first = N; out = none_out };
    kind = FIRST;
    control = unbegun;
    least = (set_of w).shortest;
    most = (set_of w).longest;
    span = first_span (set_of w);
    twig = root_twig w s set.now.loaded U x F;
    high = root_high w s set.now.loaded U x F;
  })

  -- and what it gives: the whole tree
  pub root_passed : (b : MutBor (List ℕ)) (c : Counts) (n : Walk) (cap depth : ℕ) (r : Room c cap) (after : List ℕ) → c ≡ no_counts → after ≡ n.words.now → depth ≡ enough (set_of w)
      → Hung (start b c cap r) n x nothing depth → Passed w cap b.now after n.seen
  unfolding the_tree
  root_passed b c n cap depth r after ec ew e H =
      rw ew (rw (ec, e, root_child_lem (set_of w)) at (H.wrote FIRST unbegun (set_of w).shortest (set_of w).longest (first_span (set_of w)) (root_twig w s set.now.loaded U x F)))
