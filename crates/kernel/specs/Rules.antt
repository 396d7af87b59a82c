-- The kernel of paper 01, tick by tick: what a run is, and its log. Everything else is proved against this page.
use Rattle.std.specs.Prelude.{ℕ, zero, suc, ◌+◌, ◌≤◌, ◌<◌, ◌≡◌, Bool, true, false, cond, not, ◌&&◌, ◌||◌, List, [], ◌∷◌, ◌++◌, ltb, leb, eqb}

-- ---- the jobs, as the kernel sees them

-- Jobs are numbered from 0, and so are the segments within each job; the number `jobs` stands for no job. A segment's priority is that of its job
-- while the segment is dispatched: the larger of the job's base and the ceilings of the locks that the segment holds.
pub record JobSet : Type 0 where
  pub frame : ℕ
  pub jobs : ℕ
  pub release : ℕ → ℕ
  pub base : ℕ → ℕ
  pub segments : ℕ → ℕ
  pub priority : ℕ → ℕ → ℕ
  pub shortest : ℕ → ℕ → ℕ
  pub longest : ℕ → ℕ → ℕ

-- ---- where a run stands

-- of each job: its present segment, and how many ticks that segment has had
pub record Progress : Type 0 where
  pub segment : ℕ → ℕ
  pub had : ℕ → ℕ

-- a job that has run for at least one tick is begun
abbrev pub begun : Progress → ℕ → Bool
begun p i = ltb 0 (p.segment i) || ltb 0 (p.had i)

module _ (J : JobSet) (p : Progress) where
  abbrev pub finished : ℕ → Bool
  finished i = leb (J.segments i) (p.segment i)

  -- released by this tick, and not finished
  abbrev pub ready : ℕ → ℕ → Bool
  ready tick i = leb (J.release i) tick && not (finished i)

  -- a job not yet begun has its base; once dispatched, the priority of its present segment
  abbrev pub current : ℕ → ℕ
  current i = cond (begun p i) (J.priority i (p.segment i)) (J.base i)

  -- i is begun and j is not
  abbrev pub begun_first : ℕ → ℕ → Bool
  begun_first i j = begun p i && not (begun p j)

  -- the larger current priority goes first; among equals a begun job before one not begun, then the lower number
  abbrev pub beats : ℕ → ℕ → Bool
  beats i j = ltb (current j) (current i) || (eqb (current i) (current j) && (begun_first i j || (not (begun_first j i) && ltb i j)))

  -- of the ready jobs below k, the one that beats the others; none if none is ready
  unfoldable pub best : ℕ → ℕ → ℕ
  best tick zero = J.jobs
  best tick (suc k) =
      let d = best tick k in
      cond (ready tick k) (cond (eqb d J.jobs) k (cond (beats k d) k d)) d

  -- every job below k is finished
  unfoldable pub all_finished : ℕ → Bool
  all_finished zero = true
  all_finished (suc k) = finished k && all_finished k

-- ---- switches

pub data Kind : Type 0 where
  FIRST END STEP CUT : Kind

-- A switch names its kind, the tick of leaving, and the job and segment that run next. Its `start` is the tick at which that segment starts or
-- resumes, which the log leaves out.
pub record Switch : Type 0 where
  pub kind : Kind
  pub tick : ℕ
  pub job : ℕ
  pub segment : ℕ
  pub start : ℕ

-- what the next dispatch will report: that it is the first; that a running segment is cut; or that one was left, by END or STEP, at a tick
pub data Due : Type 0 where
  first : Due
  cutting : Due
  leaving : Kind → ℕ → Due

-- ---- one tick

-- a run between two ticks: the job that had the last tick is the running one
pub record Run : Type 0 where
  pub progress : Progress
  pub running : ℕ
  pub due : Due

-- f with v at j
unfoldable pub put {ℓ} : {X : Type ℓ} → (ℕ → X) → ℕ → X → ℕ → X
put f j v i = cond (eqb i j) v (f i)

-- j moves to its next segment
abbrev pub next_segment : Progress → ℕ → Progress
next_segment p j = record { segment = put p.segment j (p.segment j + 1); had = put p.had j 0 }

-- d has one tick more
abbrev pub one_tick : Progress → ℕ → Progress
one_tick p d = record { segment = p.segment; had = put p.had d (p.had d + 1) }

-- the switch that a dispatch of segment k of job d reports at a tick, where `was` ran before
unfoldable pub reported : (tick was d k : ℕ) → Due → List Switch
reported tick was d k first = record { kind = FIRST; tick = tick; job = d; segment = k; start = tick } ∷ []
reported tick was d k cutting = cond (eqb d was) [] (record { kind = CUT; tick = tick; job = d; segment = k; start = tick } ∷ [])
reported tick was d k (leaving kind at) = record { kind = kind; tick = at; job = d; segment = k; start = tick } ∷ []

module _ (J : JobSet) where
  -- 2. and 3. Of the jobs released by this tick and not finished, the one that beats the others is dispatched.
  abbrev pub dispatched : ℕ → Run → ℕ
  dispatched tick r = best J r.progress tick J.jobs

  -- 4. The dispatched job runs for one tick. If none is ready, the tick passes.
  unfoldable pub run_tick : ℕ → Run → Run
  run_tick tick r =
      let d = dispatched tick r in
      cond (ltb d J.jobs)
      (record { progress = one_tick r.progress d; running = d; due = cutting })
      (record { progress = r.progress; running = J.jobs; due = r.due })

  -- the switch of a tick, if it has one
  unfoldable pub switch_at : ℕ → Run → List Switch
  switch_at tick r =
      let d = dispatched tick r in
      cond (ltb d J.jobs) (reported tick r.running d (r.progress.segment d) r.due) []

  -- the last switch is an END with neither job nor segment
  unfoldable pub last_switch : Due → List Switch
  last_switch first = []
  last_switch cutting = []
  last_switch (leaving kind at) = record { kind = kind; tick = at; job = J.jobs; segment = 0; start = at } ∷ []

  abbrev pub leave_kind : Progress → ℕ → Kind
  leave_kind p j = cond (eqb (p.segment j + 1) (J.segments j)) END STEP

  abbrev pub over : Run → Bool
  over r = all_finished J r.progress J.jobs

  abbrev pub fresh : Run
  fresh = record { progress = record { segment = λ i. 0; had = λ i. 0 }; running = J.jobs; due = first }

-- ---- a run, where segment k of job i takes `time i k` ticks

module _ (J : JobSet) (time : ℕ → ℕ → ℕ) where
  abbrev pub had_its_time : Run → Bool
  had_its_time r = ltb r.running J.jobs && eqb (r.progress.had r.running) (time r.running (r.progress.segment r.running))

  -- 1. If the running segment has had its time, it ends. The job is finished, or moves to its next segment.
  unfoldable pub end_segment : ℕ → Run → Run
  end_segment tick r =
      cond (had_its_time r)
      (record {
        progress = next_segment r.progress r.running;
        running = J.jobs;
        due = leaving (leave_kind J r.progress r.running) tick;
      })
      r

  -- the switches of at most n ticks from a tick on: a run ends when every job is finished
  unfoldable pub switches : (n tick : ℕ) → Run → List Switch
  switches zero tick r = []
  switches (suc n) tick r =
      let e = end_segment tick r in
      let rest = switches n (suc tick) (run_tick J tick e) in
      cond (over J e) (last_switch J e.due) (switch_at J tick e ++ rest)

  -- the run ends within n ticks from a tick on
  unfoldable pub ends : (n tick : ℕ) → Run → Bool
  ends zero tick r = false
  ends (suc n) tick r =
      let e = end_segment tick r in
      let rest = ends n (suc tick) (run_tick J tick e) in
      cond (over J e) true rest

  -- the switches of the run in its frame, and whether it ends at the frame's last tick or before
  abbrev pub run_of : List Switch
  run_of = switches (suc J.frame) 0 (fresh J)

  abbrev pub is_in_frame : Bool
  is_in_frame = ends (suc J.frame) 0 (fresh J)

-- ---- all runs

module _ (J : JobSet) where
  -- execution times within their bounds
  pub record Within (time : ℕ → ℕ → ℕ) : Type 0 where
    pub low : (i k : ℕ) → i < J.jobs → k < J.segments i → J.shortest i k ≤ time i k
    pub high : (i k : ℕ) → i < J.jobs → k < J.segments i → time i k ≤ J.longest i k

  -- refusal 5: some run ends later than the frame length
  pub record SomeRunEndsLate : Type 0 where
    pub time : ℕ → ℕ → ℕ
    pub within : Within time
    pub late : is_in_frame J time ≡ false
