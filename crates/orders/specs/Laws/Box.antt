-- Many runs at once: a box of points, and the switches that its points make next, as its children.
use Rattle.std.specs.Prelude.{◌≡◌, true, List, [], ◌∷◌, ◌++◌, map, ℕ, zero, suc, ◌+◌, ◌-◌, ◌≤◌, ◌<◌, max}
use Rattle.kernel.specs.Rules.{JobSet, Kind, CUT}
use Rattle.kernel.specs.Laws.Tests.{iflt}
use Rattle.kernel.specs.Laws.Places.{put2}
use Rattle.kernel.specs.Laws.Control.{Control, leave, weight, after, above}
use Rattle.kernel.specs.Laws.Step.{State, dispatch, Point, Out, present, leave_kind_of, cut_tick}

-- from when to when the running job starts, and from what to what is left of each segment
pub record Box : Type 0 where
  pub from : ℕ
  pub to : ℕ
  pub least : ℕ → ℕ → ℕ
  pub most : ℕ → ℕ → ℕ

-- f is nowhere above g, of the segments that exist
abbrev pub Under : JobSet → (f g : ℕ → ℕ → ℕ) → Type 0
Under J f g = (i k : ℕ) → i < J.jobs → k < J.segments i → f i k ≤ g i k

-- the point lies in the box
pub record In (J : JobSet) (B : Box) (p : Point) : Type 0 where
  pub from : B.from ≤ p.start
  pub to : p.start ≤ B.to
  pub low : Under J B.least p.left
  pub high : Under J p.left B.most

-- a switch that points of a box make, from a first to a last tick of leaving, and where it leads
pub record Child : Type 0 where
  pub kind : Kind
  pub first : ℕ
  pub last : ℕ
  pub state : State
  pub box : Box

-- ticks of leaving after which one job is dispatched next
pub record Span : Type 0 where
  pub first : ℕ
  pub last : ℕ
  pub job : ℕ

module _ (J : JobSet) where
  -- the ticks from t to top, by the job that is dispatched after a leaving
  unfoldable pub spans : Control → (top fuel t : ℕ) → List Span
  spans κ top zero t = []
  spans κ top (suc f) t =
      let d = after J κ t in
      let x = above J κ t (weight J κ d) (suc top) in
      iflt top t [] (record { first = t; last = x - 1; job = d } ∷ spans κ top f x)

  -- the child of a span, with what is left after the leaving
  unfoldable pub child : Kind → Control → (least most : ℕ → ℕ → ℕ) → Span → Child
  child kind κ least most s = record {
    kind = kind;
    first = s.first;
    last = s.last;
    state = dispatch κ s.job;
    box = record { from = max s.first (J.release s.job); to = max s.last (J.release s.job); least = least; most = most };
  }

  -- the earliest and the latest tick at which the running segment can have had its time
  abbrev pub early : State → Box → ℕ
  early S B = B.from + B.least S.job (present S)

  abbrev pub late : State → Box → ℕ
  late S B = B.to + B.most S.job (present S)

  -- the latest tick at which it can be left: that of its cut, or its latest end
  abbrev pub latest : State → Box → ℕ
  latest S B = cut_tick J S B.from (late S B)

  unfoldable pub leave_child : State → Box → Span → Child
  leave_child S B = child (leave_kind_of J S) (leave S.control S.job) (put2 B.least S.job (present S) 0) (put2 B.most S.job (present S) 0)

  unfoldable pub leave_spans : State → Box → List Span
  leave_spans S B = spans (leave S.control S.job) (latest S B) (suc (latest S B) - early S B) (early S B)

  -- the children by END or STEP
  unfoldable pub leaves : State → Box → List Child
  leaves S B = map (leave_child S B) (leave_spans S B)

  abbrev pub cut_span : State → ℕ → Span
  cut_span S t = record { first = t; last = t; job = after J S.control t }

  -- the child by a cut at t: at least 1 tick is left
  unfoldable pub cut_child : State → Box → ℕ → Child
  cut_child S B t =
      child CUT S.control (put2 B.least S.job (present S) (max 1 (early S B - t))) (put2 B.most S.job (present S) (late S B - t)) (cut_span S t)

  unfoldable pub cuts : State → Box → List Child
  cuts S B = iflt (latest S B) (late S B) (cut_child S B (latest S B) ∷ []) []

  unfoldable pub children : State → Box → List Child
  children S B = leaves S B ++ cuts S B

  -- what a box owes: the running job is ahead of all that is released by the end of its start interval
  pub record Sound (S : State) (B : Box) : Type 0 where
    pub inside : S.job < J.jobs
    pub alive : 0 < weight J S.control S.job
    pub out : J.release S.job ≤ B.from
    pub ends : B.from ≤ B.to
    pub top : (i : ℕ) → i < J.jobs → J.release i ≤ B.to → weight J S.control i ≤ weight J S.control S.job
    pub tie : (i : ℕ) → i < S.job → 0 < weight J S.control i → weight J S.control i < weight J S.control S.job
    pub was : (i : ℕ) → S.control.begun i ≡ true → J.release i ≤ B.from
    pub order : Under J B.least B.most

  -- the child has the switch
  pub record Has (o : Out) (c : Child) : Type 0 where
    pub kind : c.kind ≡ o.kind
    pub state : c.state ≡ o.state
    pub from : c.first ≤ o.tick
    pub to : o.tick ≤ c.last
    pub point : In J c.box o.point
