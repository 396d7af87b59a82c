-- A log is that of a run just if the times read off it give it.
use Rattle.std.proofs.Common.{◌≡◌, ℕ, zero, suc, ◌-◌, ◌<◌, ◌≤◌, List, [], ◌∷◌, ◌++◌, map, length, take, drop, Ok, Err, sym, refl, ap, ◌∙◌, arith, length-take-le, get_or-take, ext_get_or}
use Rattle.kernel.specs.Rules.{JobSet, Switch}
use Rattle.kernel.specs.Jobs.{sum}
use Rattle.kernel.specs.Log.{place, time_in, switch_words, log_words}
use Rattle.kernel.specs.Held.{set_of}
use Rattle.kernel.specs.Laws.Tests.{split}
use Rattle.kernel.specs.Laws.Range.{run_same}
use Rattle.kernel.specs.Laws.Ending.{all_in_frame}
use Rattle.kernel.specs.Laws.Times.{entry_of, log_of, log_tells}
use Rattle.services.specs.Told.{times_told, entries_words, TellsTimes}
use Rattle.services.specs.Judge.{Gives, segments_in, Judges, RunsTo}
use Rattle.services.specs.declared.runnable.Runnable.{Runnable as Opened}
use Rattle.services.specs.declared.refusal.Refusal.TheVariants.{NoRun}
use Rattle.services.proofs.Credits.{place_before}
use Rattle.services.proofs.Entries.{told_tells}
use Rattle.services.proofs.Ran.{put_front}

-- a log's words are those of its entries
log_entries : (J : JobSet) (l : List Switch) → log_words J l ≡ entries_words J (map entry_of l)
unfolding log_words entries_words
log_entries J [] = refl
log_entries J (s ∷ ss) = ap (λ (r : List ℕ). switch_words J s ++ r) (log_entries J ss)

-- a segment of one of the first jobs, whose place this is
record PlaceOf (J : JobSet) (n at : ℕ) : Type 0 where
  job : ℕ
  segment : ℕ
  inside : job < n
  real : segment < J.segments job
  here : at ≡ place J job segment

-- every place is that of a segment
place_of : (J : JobSet) (n at : ℕ) → at < sum J.segments n → PlaceOf J n at
unfolding sum
place_of J zero at h = absurd (omega arith)
place_of J (suc n) at h = split at (sum J.segments n)
    (λ (q : at < sum J.segments n).
    let P = place_of J n at q in
    record { job = P.job; segment = P.segment; inside = omega (arith, P.inside); real = P.real; here = P.here })
    (λ (q : sum J.segments n ≤ at). record { job = n; segment = at - sum J.segments n; inside = omega arith; real = omega arith; here = omega arith })

module _ (s : Opened) (log told : List ℕ) (is : told ≡ times_told s.set.jobs log) where
  abbrev J : JobSet
  J = set_of s.set.jobs

  T : TellsTimes s.set.jobs log told
  T = rw is (told_tells s.set.jobs log s.set.loaded)

  -- the times of a run with this log are those read off
  told_right : (times : List ℕ) → Gives J times log → (i k : ℕ) → i < J.jobs → k < J.segments i → time_in J told i k ≡ time_in J times i k
  told_right times G i k h q =
      let W = G.fit.within in
      let e = log_tells J s.set.loaded.lawful (time_in J times) W (all_in_frame J s.set.loaded.lawful s.in_frame (time_in J times) W) i k h q in
      omega (arith, T.tells (log_of J (time_in J times)) (sym G.same ∙ log_entries J _) i k h q, e, W.high i k h q, s.set.loaded.small_times i k h q)

  pub told_runs : (times : List ℕ) → Gives J times log → RunsTo s.set.jobs told log
  told_runs times G =
      let W = G.fit.within in
      record {
        within = record {
          low = λ i k h q. omega (arith, told_right times G i k h q, W.low i k h q);
          high = λ i k h q. omega (arith, told_right times G i k h q, W.high i k h q);
        };
        same = sym G.same ∙ ap (log_words J) (sym (run_same J s.set.loaded.lawful (time_in J told) (time_in J times) (told_right times G)));
      }

  abbrev count : ℕ
  count = segments_in J

  pub count_small : count ≤ length told
  count_small = omega (arith, s.set.loaded.few_segments, T.size)

  first_same : (i k : ℕ) → i < J.jobs → k < J.segments i → time_in J (take count told) i k ≡ time_in J told i k
  first_same i k h q = get_or-take count told (place J i k) 0 (place_before J i k J.jobs h q)

  -- as many as there are segments
  told_gives : RunsTo s.set.jobs told log → Gives J (take count told) log
  told_gives R = record {
    fit = record {
      count = length-take-le count told count_small;
      within = record {
        low = λ i k h q. omega (arith, first_same i k h q, R.within.low i k h q);
        high = λ i k h q. omega (arith, first_same i k h q, R.within.high i k h q);
      };
    };
    same = ap (log_words J) (run_same J s.set.loaded.lawful (time_in J (take count told)) (time_in J told) first_same) ∙ sym R.same;
  }

  -- and they are the only ones
  told_only : (times : List ℕ) → Gives J times log → times ≡ take count told
  told_only times G = ext_get_or 0 times (take count told) (G.fit.count ∙ sym (length-take-le count told count_small)) (λ at h.
      let P = place_of J J.jobs at (omega (arith, G.fit.count)) in
      rw P.here (sym (told_right times G P.job P.segment P.inside P.real) ∙ sym (first_same P.job P.segment P.inside P.real)))

  -- ---- the ways a judgement can go where there is room

  module _ (before : List ℕ) (room : count ≤ length before) where
    pub judge_foreign : (RunsTo s.set.jobs told log → ⊥) → Judges log before before (Err NoRun) J
    judge_foreign n = record {
      small = λ h. absurd (omega arith);
      foreign = λ h none. (refl, refl);
      done = λ h times G. absurd (n (told_runs times G));
    }

    pub judge_done : (front : List ℕ) (n : ℕ) → n ≡ count → RunsTo s.set.jobs told log → front ≡ take n told
        → Judges log before (front ++ drop n before) (Ok tt) J
    judge_done front n z R e = record {
      small = λ h. absurd (omega arith);
      foreign = λ h none. absurd (none (take count told) (told_gives R));
      done = λ h times G. (refl, put_front before front times n (e ∙ rw z (sym (told_only times G))) (z ∙ sym G.fit.count) (omega arith));
    }
