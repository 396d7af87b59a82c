-- The paths through `hang`: the node is left out, ends a run, or has something below it.
use Rattle.kernel.specs.declared.jobs.Jobs.{Jobs}
use Rattle.std.proofs.Common.{ℕ, ◌+◌, ◌*◌, ◌≤◌, ◌<◌, arith, ◌≡◌, refl, ap, ◌∙◌, List, length, lt-ltb, le-ltb}
use Rattle.std.specs.Prelude.{Some, None}
use Rattle.std.proofs.lemmas.List.Edits.{sets}
use Rattle.std.proofs.Math.Seq.{length-sets}
use Rattle.std.specs.Borrow.{MutBor}
use Rattle.kernel.specs.Rules.{JobSet, Kind}
use Rattle.kernel.specs.Held.{set_of, Loaded}
use Rattle.kernel.specs.Laws.Tests.{if-lt, if-ge}
use Rattle.kernel.specs.Laws.Control.{Control, mark}
use Rattle.kernel.specs.Laws.Step.{dispatch}
use Rattle.orders.specs.Nodes.{node_words}
use Rattle.orders.specs.Laws.Box.{Child, Span, child}
use Rattle.orders.specs.Laws.Walk.{info_for, grow}
use Rattle.std.proofs.Math.ListN.{set}
use Rattle.walk.specs.State.{standing_at, resumed_as}
use Rattle.walk.specs.Choice.{First}
use Rattle.walk.specs.Nodes.{row_of}
use Rattle.walk.specs.Descent.{jobs_of, with_job, Twig, HangAsk, Hung, Rep, GrowAsk, Grown}
use Rattle.walk.specs.Counts.{Room}
use Rattle.walk.proofs.Keeping.{kept_all, kept_back}
use Rattle.walk.specs.Laws.Forests.{hang_one, grow_idle}
use Rattle.walk.specs.Laws.Writing.{wrote_none, wrote_past, wrote_node}
use Rattle.walk.specs.Laws.Twigs.{twig_some, twig_none, twig_from, twig_to, dispatched_rep}
use Rattle.walk.specs.Laws.Unfinished.{running_key, twig_key, put_first}
use Rattle.walk.specs.declared.state.Standing.{Standing}
use Rattle.walk.specs.declared.switches.Switch.{Switch}
use Rattle.walk.specs.Counts.{with_node, with_order}
use Rattle.walk.specs.declared.descent.Walk.{Walk}
use Rattle.walk.specs.declared.choice.Known.{Known}
use Rattle.walk.specs.declared.counts.Counts.{Counts}

-- the words of the node are those that the tree has
module _ {w : Jobs} {s : List Standing} {x : Switch} {kind : Kind} {κ : Control} {least most : ℕ → ℕ → ℕ} {p : Span} (T : Twig w s x kind κ least most p)
    (parent : ℕ) where
  abbrev twig : Child
  twig = child (set_of w) kind κ least most p

  last_row : x.job ≡ None → (set_of w).jobs ≤ twig.state.job → row_of parent x None ≡ node_words (set_of w) (parent, info_for twig)
  unfolding child dispatch
  last_row q h = rw (q, T.switch, T.same_kind, le-ltb p.job (set_of w).jobs h)

  job_row : (d : ℕ) → x.job ≡ Some d → row_of parent x (Some (standing_at s d).segment) ≡ node_words (set_of w) (parent, info_for twig)
  unfolding child dispatch mark
  job_row d q =
      let (e, l) = twig_some T q in
      let h : p.job < (set_of w).jobs = omega (arith, e) in
      rw (q, e, T.switch, T.same_kind, lt-ltb p.job (set_of w).jobs h, T.stands.segment p.job h)

module _ {o : Walk} {x : Switch} {depth : ℕ} {known : Known} (A : HangAsk o x depth known) where
  abbrev J : JobSet
  J = set_of (jobs_of o)

  loaded : Loaded (jobs_of o)
  loaded = o.set.now.loaded

  -- it is left out
  pub hung_past : {parent : ℕ} → o.cap ≤ o.seen.nodes → Hung o o x parent depth
  hung_past h = record { kept = kept_all o; wrote = λ kind κ least most p T. rw (hang_one (grow J depth)) (wrote_past o.room h) }

  -- there is room for one node more
  more_room : (orders : ℕ) → o.seen.nodes < o.cap → orders ≤ o.seen.orders + 1 → Room (record { nodes = o.seen.nodes + 1; orders = orders }) o.cap
  more_room orders h l = record { nodes = omega arith; orders = omega (arith, o.room.orders); most = o.room.most }

  -- none is dispatched
  pub hung_last : {parent : ℕ} {b : MutBor (List ℕ)} {c : Counts} {r : Room c o.cap} → o.seen.nodes < o.cap → x.job ≡ None
      → b.ghost_name ≡ o.words.ghost_name → b.now ≡ sets o.words.now (8 * o.seen.nodes) (row_of parent x None) → c ≡ with_order o.seen
      → Hung o (record { set = o.set; words = b; state = o.state; seen = c; cap = o.cap; room = r }) x parent depth
  hung_last {parent} {b = b} h q eg eb ec = record {
    kept = record { set = refl; cap = refl; state = refl; same_words = eg; long = ap length eb ∙ length-sets o.words.now (8 * o.seen.nodes) (row_of parent x None) };
    wrote = λ kind κ least most p T.
        let y : Child = child J kind κ least most p in
        let j : J.jobs ≤ y.state.job = twig_none T q in
        rw (ec, hang_one (grow J depth)) (wrote_node {last = 1} h (eb ∙ ap (sets o.words.now (8 * o.seen.nodes)) (last_row T parent q j))
        (if-ge _ J.jobs 0 1 j) refl refl
        (rw (grow_idle J y.state y.box depth j) (wrote_none (more_room (o.seen.orders + 1) h (omega arith)))));
  }

  -- the job that is dispatched has a place in the row
  pub hang_fits : {d : ℕ} → x.job ≡ Some d → d < 32
  hang_fits q = omega (arith, twig_some A.twig q, loaded.few_jobs)

  -- a job is dispatched
  module _ {d : ℕ} {now : Standing} {more : Counts} (h : o.seen.nodes < o.cap) (q : x.job ≡ Some d)
      (en : now ≡ resumed_as J d (standing_at o.state d)) (em : more ≡ with_node o.seen) where
    rep : {kind : Kind} {κ : Control} {least most : ℕ → ℕ → ℕ} {p : Span} → Twig (jobs_of o) o.state x kind κ least most p
        → Rep (jobs_of o) (set o.state d now) d (child J kind κ least most p).state (child J kind κ least most p).box
    rep T = rw en (dispatched_rep T loaded q)

    -- the job has a key before and after
    unfinished : First (jobs_of o) (set o.state d now) known.first
    unfinished = put_first d now (twig_key A.twig q) (running_key (rep A.twig)) A.next.first

    pub hang_grows : {b : MutBor (List ℕ)} {r : Room more o.cap}
        → GrowAsk (record { set = o.set; words = b; state = set o.state d now; seen = more; cap = o.cap; room = r }) d x.from x.to depth known
    hang_grows = record {
      next = record { first = unfinished; out = A.next.out };
      state = (child J A.kind A.control A.least A.most A.span).state;
      box = (child J A.kind A.control A.least A.most A.span).box;
      rep = rep A.twig;
      starts = twig_from A.twig;
      ends = twig_to A.twig;
      high = A.high;
    }

    pub hung_job : {parent : ℕ} {b : MutBor (List ℕ)} {r : Room more o.cap} {n : Walk} {again : Room n.seen n.cap} → b.ghost_name ≡ o.words.ghost_name
        → b.now ≡ sets o.words.now (8 * o.seen.nodes) (row_of parent x (Some (standing_at o.state d).segment))
        → Grown (record { set = o.set; words = b; state = set o.state d now; seen = more; cap = o.cap; room = r }) n d x.from x.to o.seen.nodes depth
        → Hung o (with_job n d (standing_at o.state d) again) x parent depth
    hung_job {parent} eg eb G = record {
      kept = kept_back d now G.kept eg
          (ap length eb ∙ length-sets o.words.now (8 * o.seen.nodes) (row_of parent x (Some (standing_at o.state d).segment)));
      wrote = λ kind κ least most p T.
          let (e, l) = twig_some T q in
          let j : (child J kind κ least most p).state.job < J.jobs = omega (arith, e) in
          rw (hang_one (grow J depth)) (wrote_node {last = 0} h (eb ∙ ap (sets o.words.now (8 * o.seen.nodes)) (job_row T parent d q))
          (if-lt _ J.jobs 0 1 j) refl (omega arith)
          (rw em at (G.wrote _ _ (rep T) (twig_from T) (twig_to T))));
    }
