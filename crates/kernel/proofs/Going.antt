-- The loop of `run`: what is written so far, with the switches that are still to come, is the whole log.
use Rattle.kernel.specs.declared.jobs.Jobs.{Jobs}
use Rattle.std.proofs.Common.{ℕ, zero, suc, ◌+◌, ◌-◌, ◌*◌, ◌≤◌, ◌<◌, arith, add-one, ◌≡◌, refl, sym, ◌∙◌, ap, ◌≢◌, Bool, true, false, cond, ◌&&◌, List, [], ◌∷◌, ◌++◌, length, get_or, set, get_or-set_other, ltb, eqb, eq-eqb, ltb-true, ltb-false, eqb-true}
use Rattle.std.proofs.lemmas.Bool.{eqb-false}
use Rattle.std.proofs.lemmas.List.Edits.{sets}
use Rattle.kernel.specs.Rules.{JobSet, Switch, Run, reported, dispatched, run_tick, switch_at, last_switch, over, fresh, end_segment, switches, run_of}
use Rattle.kernel.specs.Jobs.{largest}
use Rattle.kernel.specs.Log.{switch_words, log_words, time_in}
use Rattle.kernel.specs.Held.{set_of, Loaded}
use Rattle.kernel.specs.Code.{State, due_of, time_at, no_standing, segment_in, rest_in, Fresh, end_step, release_step, dispatch_step, tick_step, ended, releases, released_after, settled, Settled, NoneFrom, last_words, last_count, note_words, Runs, Logged}
use Rattle.kernel.specs.Laws.Sums.{one_of_sum}
use Rattle.kernel.specs.Laws.Tests.{split}
use Rattle.kernel.specs.Laws.Control.{Positive, positive_times}
use Rattle.kernel.specs.Laws.Choice.{ready_released, ready_open, ready_of, best_ready, best_some}
use Rattle.kernel.specs.Laws.Ticks.{serving, waiting, over_cases, after_end, end_yes, end_not, end_none, tick_some, tick_none, switch_some, switch_none}
use Rattle.kernel.specs.Laws.Key.{job_of, ReleasedBy}
use Rattle.kernel.specs.Laws.Leads.{switches_some}
use Rattle.kernel.specs.Laws.Steps.{run_bound}
use Rattle.kernel.specs.Laws.Shows.{Shows, shows_fresh, shows_end}
use Rattle.kernel.specs.Laws.Serves.{shows_released, none_keyed, dispatches, shows_on, shows_switch}
use Rattle.kernel.specs.declared.state.Standing.{Standing}
use Rattle.kernel.proofs.Noted.{sets_append, log_one, note_is, last_is}

module _ (w : Jobs) (times : List ℕ) (R : Runs w times) where
  abbrev J : JobSet
  J = set_of w

  abbrev time : ℕ → ℕ → ℕ
  time = time_in J times

  abbrev L : Loaded w
  L = R.loaded

  same_times : (i k : ℕ) → i < J.jobs → time_at w times i k ≡ time i k
  same_times i k h = ap (λ (n : ℕ). get_or times (n + k) 0) (L.firsts i h)

  positive : Positive J time
  positive = positive_times J L.lawful time R.within

  -- the switches from a tick on, in the frame
  abbrev to_come : ℕ → Run → List Switch
  to_come tick r = switches J time (suc J.frame - tick) tick r

  pub record Going (before log : List ℕ) (s : State) (count tick : ℕ) : Type 0 where
    pub run : Run
    pub shows : Shows J time s run
    pub out : (i : ℕ) → i < s.released → J.release i ≤ tick
    pub words : sets log (4 * count) (log_words J (to_come tick run)) ≡ sets before 0 (log_words J (run_of J time))
    pub counted : count + length (to_come tick run) ≡ length (run_of J time)

  pub start : (before : List ℕ) (s : State) → Fresh w times s → Going before before s 0 0
  start before s F =
      let whole : to_come 0 (fresh J) ≡ run_of J time = ap (λ (n : ℕ). switches J time n 0 (fresh J)) (omega arith) in
      record {
        run = fresh J;
        shows = shows_fresh w times L time positive same_times s F;
        out = λ i h. absurd (omega (arith, F.released));
        words = ap (λ (l : List Switch). sets before 0 (log_words J l)) whole;
        counted = omega (arith, ap length whole);
      }

  no_words : (log : List ℕ) (i : ℕ) → sets log i (log_words J []) ≡ log
  unfolding log_words
  no_words log i = refl

  -- the frame is over
  pub stopped : (before log : List ℕ) (s : State) (count tick : ℕ) → Going before log s count tick → J.frame < tick → Logged w times before log count
  stopped before log s count tick G h =
      let end : suc J.frame - tick ≡ 0 = omega arith in
      let none : to_come tick G.run ≡ [] = rw end (unfold switches in refl) in
      record {
        words = sym (ap (λ (l : List Switch). sets log (4 * count) (log_words J l)) none ∙ no_words log (4 * count)) ∙ G.words;
        switches = omega (arith, G.counted, ap length none);
      }

  -- there are few switches
  pub few : (before log : List ℕ) (s : State) (count tick : ℕ) → Going before log s count tick → count ≤ 96
  few before log s count tick G = omega (arith, G.counted, run_bound J L.lawful time R.within, L.few_segments, L.few_jobs)

  -- and few segments
  pub few_segments : (before log : List ℕ) (s : State) (count tick : ℕ) → Going before log s count tick → s.running < J.jobs → segment_in s s.running < 255
  few_segments before log s count tick G h =
      let S = G.shows in
      let k : segment_in s s.running ≡ segment_in s G.run.running = ap (segment_in s) S.running in
      let j : G.run.running < J.jobs = omega (arith, S.running) in
      omega (arith, S.segment G.run.running j, (S.on j).1, one_of_sum J.segments J.jobs G.run.running j, L.few_segments)

  -- a segment has ended if it had its time; that changes no release
  pub settled_yes : (tick : ℕ) (s q : State) → ended J s ≡ true → q ≡ end_step w times tick s → q ≡ settled w times tick s
  settled_yes tick s q h e = rw h e

  pub settled_no : (tick : ℕ) (s q : State) → ended J s ≡ false → q ≡ s → q ≡ settled w times tick s
  settled_no tick s q h e = rw h e

  pub same_releases : (tick : ℕ) (s q : State) → q ≡ settled w times tick s → releases J tick q ≡ releases J tick s
  unfolding end_step
  same_releases tick s q e = ap (releases J tick) e ∙ go (ended J s)
    where
      go : (b : Bool) → releases J tick (cond b (end_step w times tick s) s) ≡ releases J tick s
      go true = refl
      go false = refl

  -- releasing changes neither what is left nor what is due
  left_after : (n : ℕ) (s : State) → ((released_after w n s).left ≡ s.left) × ((released_after w n s).released ≡ s.released + n)
  unfolding released_after release_step
  left_after zero s = (refl, omega arith)
  left_after (suc n) s = ((left_after n s).0, omega (arith, (left_after n s).1))

  module _ (tick : ℕ) (s : State) (r : Run) (S : Shows J time s r) (O : (i : ℕ) → i < s.released → J.release i ≤ tick) where
    -- what step 1 leaves
    pub record Ended (q : State) : Type 0 where
      pub shows : Shows J time q (end_segment J time tick r)
      pub out : (i : ℕ) → i < q.released → J.release i ≤ tick
      pub some : (end_segment J time tick r).running < J.jobs → 1 ≤ q.left

    end_first : Ended (settled w times tick s)
    end_first = go (ltb s.running J.jobs) (eqb s.left 0) refl refl
      where
        go : (a b : Bool) → ltb s.running J.jobs ≡ a → eqb s.left 0 ≡ b → Ended (cond (a && b) (end_step w times tick s) s)
        go false b x y =
            let n : J.jobs ≤ r.running = omega (arith, ltb-false s.running J.jobs x, S.running) in
            let e : end_segment J time tick r ≡ r = end_none J time tick r n in
            record { shows = rw e S; out = O; some = rw e (λ h. absurd (omega arith)) }
        go true false x y =
            let h : r.running < J.jobs = omega (arith, ltb-true s.running J.jobs x, S.running) in
            let some : s.left ≢ 0 = eqb-false s.left 0 y in
            let e : end_segment J time tick r ≡ r = end_not J time tick r h (λ z. omega (arith, S.left h)) in
            record { shows = rw e S; out = O; some = rw e (λ h. omega arith) }
        go true true x y =
            let h : r.running < J.jobs = omega (arith, ltb-true s.running J.jobs x, S.running) in
            let e : end_segment J time tick r ≡ after_end J tick r = end_yes J time tick r h (omega (arith, S.left h, eqb-true s.left 0 y)) in
            record {
              shows = rw e (shows_end w times L time positive same_times tick s r S h);
              out = unfold end_step in O;
              some = rw e (λ h. absurd (omega arith));
            }

  module _ (before log : List ℕ) (s q : State) (count tick : ℕ) (G : Going before log s count tick) (t : tick ≤ J.frame) (Z : Settled w times tick s q) where
    -- the run after step 1
    abbrev e : Run
    e = end_segment J time tick G.run

    first_step : Ended tick s G.run G.shows G.out (settled w times tick s)
    first_step = end_first tick s G.run G.shows G.out

    both_steps : Shows J time q e × ReleasedBy J.jobs J.release tick q.released
    both_steps = shows_released w L time tick (settled w times tick s) q e first_step.shows first_step.out Z

    pub shown : Shows J time q e
    shown = both_steps.0

    pub out_now : ReleasedBy J.jobs J.release tick q.released
    out_now = both_steps.1

    -- of the running segment something is left
    pub some_left : e.running < J.jobs → 1 ≤ q.left
    some_left h = omega (arith, first_step.some h, ap (λ (x : State). x.left) Z.some.after, (left_after Z.some.steps (settled w times tick s)).0)

    pub chosen : (d : ℕ) → d ≡ job_of J.jobs (largest (λ i. get_or q.key i 0) 32) → dispatched J tick e ≡ d
    chosen d h = sym (h ∙ dispatches w L time tick q e shown out_now)

    -- where it is none, there is no key
    pub no_key : job_of J.jobs (largest (λ i. get_or q.key i 0) 32) ≡ J.jobs → largest (λ i. get_or q.key i 0) 32 ≡ 0
    no_key h = none_keyed w L time tick q e shown out_now h

    -- ---- what is to come from this tick on

    come : to_come tick G.run ≡ cond (over J e) (last_switch J e.due) (switch_at J tick e ++ to_come (suc tick) (run_tick J tick e))
    come =
        let x : suc J.frame - tick ≡ suc (J.frame - tick) = omega arith in
        let y : J.frame - tick ≡ suc J.frame - suc tick = omega arith in
        ap (λ (n : ℕ). switches J time n tick G.run) x ∙ switches_some J time tick G.run e refl (J.frame - tick)
        ∙ ap (λ (n : ℕ). cond (over J e) (last_switch J e.due) (switch_at J tick e ++ switches J time n (suc tick) (run_tick J tick e))) y

    -- it is over: the last switch is written
    pub finish : over J e ≡ true → Logged w times before (sets log (4 * count) (last_words q.due)) (count + last_count q.due)
    finish o =
        let l : to_come tick G.run ≡ last_switch J (due_of q.due) = come ∙ rw (o, shown.due) in
        let k = last_is J q.due in
        record {
          words = ap (sets log (4 * count)) (sym (ap (log_words J) l ∙ k.0)) ∙ G.words;
          switches = omega (arith, G.counted, ap length l, k.1);
        }

    -- it is not: the switch of the tick, if there is one, and then the others
    module _ (o : over J e ≡ false) (p : State) (r' : Run) (r-is : run_tick J tick e ≡ r') (S : Shows J time p r') (same : p.released ≡ q.released) where
      rest_is : to_come tick G.run ≡ switch_at J tick e ++ to_come (suc tick) r'
      rest_is = come ∙ rw (o, r-is)

      out_next : (i : ℕ) → i < p.released → J.release i ≤ tick + 1
      out_next i h = omega (arith, out_now.out i (omega arith))

      next_tick : to_come (suc tick) r' ≡ to_come (tick + 1) r'
      next_tick = ap (λ (n : ℕ). to_come n r') (sym (add-one tick))

      pub go_silent : switch_at J tick e ≡ [] → Going before log p count (tick + 1)
      go_silent z =
          let l : to_come tick G.run ≡ to_come (tick + 1) r' = rest_is ∙ rw z next_tick in
          record {
            run = r';
            shows = S;
            out = out_next;
            words = ap (λ (x : List Switch). sets log (4 * count) (log_words J x)) (sym l) ∙ G.words;
            counted = omega (arith, G.counted, ap length l);
          }

      pub go_noted : (x : Switch) (ws : List ℕ) → switch_at J tick e ≡ x ∷ [] → switch_words J x ≡ ws
          → Going before (sets log (4 * count) ws) p (count + 1) (tick + 1)
      go_noted x ws z y =
          let l : to_come tick G.run ≡ x ∷ to_come (tick + 1) r' = rest_is ∙ rw z (ap (λ (y : List Switch). x ∷ y) next_tick) in
          let four : length ws ≡ 4 = sym (ap length y) in
          let at : 4 * count + length ws ≡ 4 * (count + 1) = omega arith in
          record {
            run = r';
            shows = S;
            out = out_next;
            words =
                ap (λ (n : ℕ). sets (sets log (4 * count) ws) n (log_words J (to_come (tick + 1) r'))) (sym at)
                ∙ sym (sets_append log (4 * count) ws (log_words J (to_come (tick + 1) r')))
                ∙ ap (λ (v : List ℕ). sets log (4 * count) (v ++ log_words J (to_come (tick + 1) r'))) (sym y)
                ∙ ap (sets log (4 * count)) (sym (ap (log_words J) l ∙ log_one J x (to_come (tick + 1) r')))
                ∙ G.words;
            counted = omega (arith, G.counted, ap length l);
          }

    -- ---- the four ways on

    -- as long as one is unfinished it is not over
    open_one : (i : ℕ) → i < J.jobs → e.progress.segment i < J.segments i → over J e ≡ false
    open_one i h l = over_cases J e.progress J.jobs (λ x c. absurd (omega (arith, c i h))) (λ x i a b. x)

    -- one that is released and unfinished is ready, so one is dispatched
    ready_now : (i : ℕ) → i < q.released → e.progress.segment i < J.segments i → dispatched J tick e < J.jobs
    ready_now i h l =
        best_some J L.lawful e.progress tick i (omega (arith, shown.released)) (ready_of J e.progress tick i (out_now.out i h) l)

    module _ (none : J.jobs ≤ dispatched J tick e) where
      pub is_over : (b : Bool) → NoneFrom J q.released b → b ≡ true → over J e ≡ true
      is_over b N h = over_cases J e.progress J.jobs (λ x c. x) (λ x i a l. split i q.released
          (λ (z : i < q.released). absurd (omega (arith, ready_now i z l)))
          (λ (z : q.released ≤ i). absurd (omega (arith, N.yes h i z a))))

      none_runs : e.running ≡ J.jobs
      none_runs = split e.running J.jobs
          (λ (h : e.running < J.jobs). absurd (omega (arith, ready_now e.running (shown.on h).0 (shown.on h).1)))
          (λ (h : J.jobs ≤ e.running). omega (arith, shown.inside))

      pub go_idle : (b : Bool) → NoneFrom J q.released b → b ≡ false → Going before log q count (tick + 1)
      go_idle b N h =
          let (i, a1, a2, a3) = N.no h in
          let o : over J e ≡ false = open_one i a2 (omega (arith, (shown.idle i a1 a2).0)) in
          let same : waiting J e.progress e.due ≡ e = λ z. record { progress = e.progress; running = sym none_runs z; due = e.due } in
          go_silent o q e (tick_none J tick e none ∙ same) shown refl (switch_none J tick e none)

    module _ (d : ℕ) (is : dispatched J tick e ≡ d) (h : d < J.jobs) where
      live : e.progress.segment d < J.segments d
      live = rw is at (ready_open J e.progress tick (dispatched J tick e) (best_ready J L.lawful e.progress tick (omega arith)))

      out_d : d < q.released
      out_d = split d q.released (λ x. x) (λ (x : q.released ≤ d). absurd (omega (
        arith,
        out_now.later d x h,
        ready_released J e.progress tick (dispatched J tick e) (best_ready J L.lawful e.progress tick (omega arith)),
        ap J.release is,
      )))

      unfinished : over J e ≡ false
      unfinished = open_one d h live

      tick_count : (x : State) → (tick_step x).released ≡ x.released
      unfolding tick_step
      tick_count x = refl

      -- the running job goes on
      pub go_on : d ≡ q.running → Going before log (tick_step q) count (tick + 1)
      unfolding reported
      go_on r =
          let z : d ≡ e.running = r ∙ shown.running in
          go_silent unfinished (tick_step q) (serving _ d) (tick_some J tick e d is h)
          (shows_on J time q e shown d h out_d live z (some_left (omega arith))) (tick_count q)
          (switch_some J tick e d is h ∙ rw (shown.mid (omega arith), eq-eqb d e.running z))

      -- the running job can be served for a tick
      pub can_run : d ≡ q.running → 1 ≤ q.left
      can_run r = some_left (omega (arith, shown.running))

      dispatch_count : (dispatch_step w d q).released ≡ q.released
      unfolding dispatch_step
      dispatch_count = refl

      pub present_is : segment_in q d ≡ e.progress.segment d
      present_is = shown.segment d h

      -- another job is dispatched
      pub go_switch : d ≢ q.running → Going before (sets log (4 * count) (note_words q.due tick d (segment_in q d))) (tick_step (dispatch_step w d q)) (count + 1) (tick + 1)
      go_switch n =
          let m : d ≢ e.running = λ x. n (x ∙ sym shown.running) in
          let (x, a, b) = note_is J q.due tick e.running d (e.progress.segment d) h m in
          go_noted unfinished (tick_step (dispatch_step w d q)) (serving _ d) (tick_some J tick e d is h)
          (shows_switch J time q e shown d h out_d live m some_left L.few_jobs w refl) (tick_count (dispatch_step w d q) ∙ dispatch_count)
          x _ (switch_some J tick e d is h ∙ ap (reported tick e.running d (e.progress.segment d)) (sym shown.due) ∙ a)
          (b ∙ ap (note_words q.due tick d) (sym present_is))

      -- what is left of the job that is dispatched
      pub can_start : d ≢ q.running → 1 ≤ (dispatch_step w d q).left
      unfolding dispatch_step
      can_start n =
          let m : d ≢ e.running = λ x. n (x ∙ sym shown.running) in
          let k : (get_or (set q.job q.running (record { segment = segment_in q q.running; rest = q.left })) d no_standing).rest ≡ rest_in q d
          = ap (λ (x : Standing). x.rest) (get_or-set_other q.job q.running d (record { segment = segment_in q q.running; rest = q.left }) no_standing n) in
          omega (arith, shown.rest d h m live, shown.some d h m live)
