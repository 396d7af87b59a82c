-- What the descent asks and ensures: from a row of jobs that stands for a box, the tree that the theory grows below that box.
use Rattle.walk.specs.declared.state.Standing.{Standing}
use Rattle.kernel.specs.declared.jobs.Jobs.{Jobs}
use Rattle.std.specs.Prelude.{ℕ, ◌+◌, ◌-◌, ◌*◌, ◌≤◌, ◌<◌, min, ◌≡◌, true, List, [], ◌∷◌, length}
use Rattle.std.proofs.Math.ListN.{set}
use Rattle.std.proofs.lemmas.List.Edits.{sets}
use Rattle.kernel.specs.Rules.{JobSet, Kind}
use Rattle.kernel.specs.Code.{kind_of}
use Rattle.kernel.specs.Held.{set_of}
use Rattle.kernel.specs.Laws.Tests.{iflt}
use Rattle.kernel.specs.Laws.Control.{Control}
use Rattle.kernel.specs.Laws.Step.{State}
use Rattle.orders.specs.Orders.{Forest, none, node, size}
use Rattle.orders.specs.Laws.Box.{Box, Span, child, early, late, latest, leaves, cuts, Sound}
use Rattle.orders.specs.Laws.Child.{Owes}
use Rattle.orders.specs.Laws.Walk as walk
use Rattle.orders.specs.Laws.Words.{words}
use Rattle.walk.specs.State.{Stands}
use Rattle.walk.specs.Switches.{switch_of, SwitchAsk}
use Rattle.walk.specs.declared.switches.Switch.{Switch}
use Rattle.walk.specs.Counts.{Room}
use Rattle.walk.specs.declared.counts.Counts.{Counts}
use Rattle.walk.specs.declared.choice.Known.{Known}
use Rattle.walk.specs.declared.descent.Walk.{Walk}

-- ---- what is written and counted

-- the nodes that end a run
unfoldable pub ends : JobSet → Forest → ℕ
ends J none = 0
ends J (node x below beside) = iflt x.label.job J.jobs 0 1 + (ends J below + ends J beside)

-- from the words b and the count c the forest F was walked: its nodes are counted up to cap, and written where none is left out
pub record Wrote (J : JobSet) (F : Forest) (parent cap : ℕ) (b : List ℕ) (c : Counts) (b' : List ℕ) (c' : Counts) : Type 0 where
  pub nodes : c'.nodes ≡ min (c.nodes + size F) cap
  pub orders : c.orders ≤ c.nodes → c'.orders ≤ c'.nodes
  pub full : c.nodes + size F ≤ cap → (b' ≡ sets b (8 * c.nodes) (words J parent c.nodes F)) × (c'.orders ≡ c.orders + ends J F)

-- no tick can grow too large in so many switches
pub record High (to depth : ℕ) : Type 0 where
  pub near : to + 1000000 * depth ≤ 100000000
  pub deep : depth ≤ 96

-- ---- a walk under way

-- its job set
abbrev pub jobs_of : Walk → Jobs
jobs_of o = o.set.now.jobs

-- with job j standing so
abbrev pub with_job : (o : Walk) → ℕ → Standing → Room o.seen o.cap → Walk
with_job o j x r = record { set = o.set; words = o.words; state = set o.state j x; seen = o.seen; cap = o.cap; room = r }

-- all of it is kept but the words and the count
pub record Kept (o n : Walk) : Type 0 where
  pub set : n.set ≡ o.set
  pub cap : n.cap ≡ o.cap
  pub state : n.state ≡ o.state
  pub same_words : n.words.ghost_name ≡ o.words.ghost_name
  pub long : length n.words.now ≡ length o.words.now

-- from o to n the forest F was walked
abbrev pub Writes : (o n : Walk) (parent : ℕ) → Forest → Type 0
Writes o n parent F = Wrote (set_of (jobs_of o)) F parent o.cap o.words.now o.seen n.words.now n.seen

-- ---- hang

-- the switch stands for the child of a span: before the dispatch, the row stands for the control
pub record Twig (w : Jobs) (s : List Standing) (x : Switch) (kind : Kind) (κ : Control) (least most : ℕ → ℕ → ℕ) (p : Span) : Type 0 where
  pub same_kind : kind_of x.kind ≡ kind
  pub switch : x ≡ switch_of (set_of w) x.kind p
  pub stands : Stands (set_of w) s κ least most
  pub inside : p.job ≤ (set_of w).jobs
  pub owes : Owes (set_of w) (child (set_of w) kind κ least most p).state (child (set_of w) kind κ least most p).box

pub record HangAsk (o : Walk) (x : Switch) (depth : ℕ) (known : Known) : Type 0 where
  pub next : SwitchAsk (jobs_of o) o.state known x.from
  pub kind : Kind
  pub control : Control
  pub least : ℕ → ℕ → ℕ
  pub most : ℕ → ℕ → ℕ
  pub span : Span
  pub twig : Twig (jobs_of o) o.state x kind control least most span
  pub high : High x.to depth

pub record Hung (o n : Walk) (x : Switch) (parent depth : ℕ) : Type 0 where
  pub kept : Kept o n
  pub wrote : (kind : Kind) (κ : Control) (least most : ℕ → ℕ → ℕ) (p : Span) → Twig (jobs_of o) o.state x kind κ least most p
      → Writes o n parent (walk.hang (walk.grow (set_of (jobs_of o)) depth) (child (set_of (jobs_of o)) kind κ least most p ∷ []))

-- ---- grow

-- after a dispatch, the row stands for a state and a box
pub record Rep (w : Jobs) (s : List Standing) (j : ℕ) (S : State) (B : Box) : Type 0 where
  pub stands : Stands (set_of w) s S.control B.least B.most
  pub sound : Sound (set_of w) S B
  pub job : j ≡ S.job
  pub on : S.control.begun S.job ≡ true

pub record GrowAsk (o : Walk) (j from to depth : ℕ) (known : Known) : Type 0 where
  pub next : SwitchAsk (jobs_of o) o.state known from
  pub state : State
  pub box : Box
  pub rep : Rep (jobs_of o) o.state j state box
  pub starts : from ≡ box.from
  pub ends : to ≡ box.to
  pub high : High to depth

pub record Grown (o n : Walk) (j from to parent depth : ℕ) : Type 0 where
  pub kept : Kept o n
  pub wrote : (S : State) (B : Box) → Rep (jobs_of o) o.state j S B → from ≡ B.from → to ≡ B.to
      → Writes o n parent (walk.grow (set_of (jobs_of o)) depth S B)

-- ---- leave, cut_off

pub record LeaveAsk (o : Walk) (j e l depth : ℕ) (known : Known) : Type 0 where
  pub next : SwitchAsk (jobs_of o) o.state known e
  pub state : State
  pub box : Box
  pub rep : Rep (jobs_of o) o.state j state box
  pub early : e ≡ early (set_of (jobs_of o)) state box
  pub latest : l ≡ latest (set_of (jobs_of o)) state box
  pub some : 0 < depth
  pub high : High box.to depth

pub record Left (o n : Walk) (j e l parent depth : ℕ) : Type 0 where
  pub kept : Kept o n
  pub wrote : (S : State) (B : Box) → Rep (jobs_of o) o.state j S B → e ≡ early (set_of (jobs_of o)) S B → l ≡ latest (set_of (jobs_of o)) S B
      → Writes o n parent (walk.hang (walk.grow (set_of (jobs_of o)) (depth - 1)) (leaves (set_of (jobs_of o)) S B))

pub record CutAsk (o : Walk) (j e y l depth : ℕ) (known : Known) : Type 0 where
  pub next : SwitchAsk (jobs_of o) o.state known l
  pub state : State
  pub box : Box
  pub rep : Rep (jobs_of o) o.state j state box
  pub early : e ≡ early (set_of (jobs_of o)) state box
  pub late : y ≡ late (set_of (jobs_of o)) state box
  pub latest : l ≡ latest (set_of (jobs_of o)) state box
  pub cut : l < y
  pub some : 0 < depth
  pub high : High box.to depth

pub record CutOff (o n : Walk) (j e y l parent depth : ℕ) : Type 0 where
  pub kept : Kept o n
  pub wrote : (S : State) (B : Box) → Rep (jobs_of o) o.state j S B
      → e ≡ early (set_of (jobs_of o)) S B → y ≡ late (set_of (jobs_of o)) S B → l ≡ latest (set_of (jobs_of o)) S B
      → Writes o n parent (walk.hang (walk.grow (set_of (jobs_of o)) (depth - 1)) (cuts (set_of (jobs_of o)) S B))
