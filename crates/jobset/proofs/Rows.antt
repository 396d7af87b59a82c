-- The rows of jobs and segments as they fill: with one job more, and with one segment more of it.
use Rattle.std.specs.Prelude.{ℕ, zero, suc, ◌+◌, ◌≤◌, ◌<◌, ◌≡◌, refl, List, [], ◌∷◌, ◌++◌, length, set, take, map}
use Rattle.std.specs.List.{range_with_len, flat_map}
use Rattle.std.proofs.Common.{arith, add-one, ap, sym, ◌∙◌}
use Rattle.std.proofs.lemmas.List.{append-nil, append_assoc, length-append, map-id}
use Rattle.std.proofs.lemmas.List.Concat.{flat_map-append}
use Rattle.std.proofs.lemmas.List.FromFn.{length-map-range_with_len, take-map-range_with_len, map-range_with_len_more}
use Rattle.table.specs.Table.{the_job, the_segment, padded}
use Rattle.table.specs.Sound.{Sound}
use Rattle.table.specs.declared.Table.{Table}
use Rattle.kernel.specs.Jobs.{sum, base_of, count_of, number_of, dispatched_priority}
use Rattle.kernel.specs.Held.{no_job, no_segment}
use Rattle.kernel.specs.declared.jobs.Job.{Job}
use Rattle.kernel.specs.declared.jobs.Segment.{Segment}
use Rattle.kernel.specs.declared.jobs.Jobs.{Jobs}
use Rattle.jobset.specs.Load.{held_job, held_segment, segments_of, held_first}
use Rattle.jobset.specs.Laws.Accepted.{first_is}

module _ {E : Type 0} (filler : E) where
  set_padded : (n : ℕ) (xs : List E) (v : E) → set (padded n filler xs) (length xs) v ≡ padded n filler (xs ++ v ∷ [])
  unfolding padded
  set_padded zero xs v = refl
  set_padded (suc n) [] v = refl
  set_padded (suc n) (x ∷ xs) v = ap (λ (l : List E). x ∷ l) (set_padded n xs v)

  -- one more
  row_more : (n at : ℕ) (xs : List E) (v : E) → length xs ≡ at → set (padded n filler xs) at v ≡ padded n filler (xs ++ v ∷ [])
  row_more n at xs v e = rw (← e) (set_padded n xs v)

range_more : (n : ℕ) → range_with_len 0 (n + 1) ≡ range_with_len 0 n ++ n ∷ []
range_more n =
    sym (map-id (range_with_len 0 (n + 1)))
    ∙ map-range_with_len_more (λ (i : ℕ). i) 0 n n (omega arith)
    ∙ ap (λ (l : List ℕ). l ++ n ∷ []) (map-id (range_with_len 0 n))

pub take_range : (n i : ℕ) → i ≤ n → take i (range_with_len 0 n) ≡ range_with_len 0 i
take_range n i h =
    ap (take i) (sym (map-id (range_with_len 0 n)))
    ∙ take-map-range_with_len (λ (i : ℕ). i) 0 n i h
    ∙ map-id (range_with_len 0 i)

module _ (t : Table) where
  -- the segments of the first n jobs
  abbrev pub front : ℕ → List Segment
  front n = flat_map (segments_of t) (range_with_len 0 n)

  front_more : (n : ℕ) → front (n + 1) ≡ front n ++ segments_of t n
  front_more n =
      ap (flat_map (segments_of t)) (range_more n)
      ∙ flat_map-append (segments_of t) (range_with_len 0 n) (n ∷ [])
      ∙ ap (λ (l : List Segment). front n ++ l) (append-nil (segments_of t n))

  pub length_segments : (i : ℕ) → length (segments_of t i) ≡ count_of t i
  unfolding segments_of
  length_segments i = length-map-range_with_len (held_segment t i) 0 (count_of t i)

  pub length_front : (n : ℕ) → length (front n) ≡ sum (count_of t) n
  unfolding sum
  length_front zero = refl
  length_front (suc n) =
      ap length (rw (add-one n) at (front_more n))
      ∙ length-append (front n) (segments_of t n)
      ∙ omega (arith, length_front n, length_segments n)

  -- with a job, and with a segment, at a place of its row
  abbrev with_job : Jobs → ℕ → Job → Jobs
  with_job w i v = record { frame = w.frame; count = w.count; job = set w.job i v; segment = w.segment }

  abbrev with_segment : Jobs → ℕ → Segment → Jobs
  with_segment w number v = record { frame = w.frame; count = w.count; job = w.job; segment = set w.segment number v }

  -- the first i jobs, job i, and k of its segments
  unfoldable pub partly : (i k : ℕ) → Jobs
  partly i k = record {
    frame = t.frame;
    count = t.jobs;
    job = padded 32 no_job (map (held_job t) (range_with_len 0 (i + 1)));
    segment = padded 64 no_segment (front i ++ map (held_segment t i) (range_with_len 0 k));
  }

  pub job_more : (i base count k : ℕ) (w : Jobs) → w ≡ held_first t i → base ≡ base_of t i → count ≡ count_of t i → k ≡ 0
      → with_job w i (record { release = (the_job t i).release; base = base; first = (the_job t i).first; segments = count }) ≡ partly i k
  unfolding held_first partly
  job_more i base count k w e p q z =
      rw (e, p, q, z, append-nil (front i), map-range_with_len_more (held_job t) 0 i i (omega arith))
      (ap (λ (r : List Job). record { frame = t.frame; count = t.jobs; job = r; segment = padded 64 no_segment (front i) })
      (row_more no_job 32 i (map (held_job t) (range_with_len 0 i)) (held_job t i) (length-map-range_with_len (held_job t) 0 i)))

  -- k segments of the job come before the one with this number
  pub segment_more : (i number k next p : ℕ) (w : Jobs) → Sound t → i < t.jobs → w ≡ partly i k
      → number ≡ number_of t i k → next ≡ k + 1 → p ≡ dispatched_priority t i k
      → with_segment w number (record { shortest = (the_segment t number).shortest; longest = (the_segment t number).longest; priority = p }) ≡ partly i next
  unfolding partly
  segment_more i number k next p w S h e q n z =
      let own : List Segment = map (held_segment t i) (range_with_len 0 k) in
      rw (e, q, n, z, map-range_with_len_more (held_segment t i) 0 k k (omega arith), ← append_assoc (front i) own (held_segment t i k ∷ []))
      (ap (λ (r : List Segment). record { frame = t.frame; count = t.jobs; job = padded 32 no_job (map (held_job t) (range_with_len 0 (i + 1))); segment = r })
      (row_more no_segment 64 (number_of t i k) (front i ++ own) (held_segment t i k)
      (length-append (front i) own ∙ omega (arith, length_front i, first_is t S i h, length-map-range_with_len (held_segment t i) 0 k))))

  pub segments_all : (i k : ℕ) (w : Jobs) → w ≡ partly i k → k ≡ count_of t i → w ≡ held_first t (i + 1)
  unfolding partly held_first segments_of
  segments_all i k w e q = rw (e, q, front_more i)
