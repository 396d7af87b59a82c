-- Runs of bytes that pass a test.
use Rattle.std.specs.Prelude.{ℕ, zero, suc, ◌+◌, ◌<◌, ◌≤◌, ◌≡◌, refl, List, [], ◌∷◌, Bool, true, false, cond, length, get_or, take, drop}
use Rattle.std.proofs.Common.{add-one, arith, sym, ◌∙◌}
use Rattle.std.specs.List.{prefix_len}
use Rattle.std.proofs.lemmas.List.Folds.{length-prefix_len}
use Rattle.draft.specs.Words.{run}

pub never : {A : Type 0} (b : Bool) → b ≡ true → b ≡ false → A
never b p q = cc

-- a byte that passes is inside, since past the end stands a newline, and begins a run
pub run_inside : (test : ℕ → Bool) (s : List ℕ) (i : ℕ) → test 10 ≡ false → test (get_or s i 10) ≡ true → i < length s
run_inside test [] i n e = never (test 10) e n
run_inside test (x ∷ xs) zero n e = omega arith
run_inside test (x ∷ xs) (suc i) n e = let h = run_inside test xs i n e in omega arith

pub run_more : (test : ℕ → Bool) (s : List ℕ) (i : ℕ) → test 10 ≡ false → test (get_or s i 10) ≡ true → run test (drop i s) ≡ suc (run test (drop (suc i) s))
unfolding run
run_more test [] i n e = never (test 10) e n
run_more test (x ∷ xs) zero n e = rw e
run_more test (x ∷ xs) (suc i) n e = run_more test xs i n e

pub run_over : (test : ℕ → Bool) (s : List ℕ) (i : ℕ) → test (get_or s i 10) ≡ false → run test (drop i s) ≡ 0
unfolding run
run_over test [] zero e = refl
run_over test [] (suc i) e = refl
run_over test (x ∷ xs) zero e = rw e
run_over test (x ∷ xs) (suc i) e = run_over test xs i e

pub run_fits : (test : ℕ → Bool) (s : List ℕ) → run test s ≤ length s
unfolding run
run_fits test [] = omega arith
run_fits test (x ∷ xs) = go (test x) (run_fits test xs)
  where
    go : (b : Bool) → run test xs ≤ length xs → cond b (suc (run test xs)) 0 ≤ suc (length xs)
    go true h = omega arith
    go false h = omega arith

-- a run is as long as the prefix that passes
pub run_is : (test : ℕ → Bool) (s : List ℕ) → length (take (prefix_len test s) s) ≡ run test s
unfolding run
run_is test s = length-prefix_len test s ∙ go s
  where
    go : (s : List ℕ) → prefix_len test s ≡ run test s
    go [] = refl
    go (x ∷ xs) = step (test x) (go xs)
      where
        step : (b : Bool) → prefix_len test xs ≡ run test xs → cond b (1 + prefix_len test xs) 0 ≡ cond b (suc (run test xs)) 0
        step true h = omega arith
        step false h = refl

-- ---- a loop over a run, at place i of s: b is the byte there and t says whether it passes

module _ (test : ℕ → Bool) (s : List ℕ) (i b : ℕ) (t : Bool) (byte : b ≡ get_or s i 10) (told : t ≡ test b) where
  pub scan_inside : test 10 ≡ false → t ≡ true → i < length s
  scan_inside n e = run_inside test s i n (rw byte at (sym told ∙ e))

  pub scan_more : (at : ℕ) → test 10 ≡ false → t ≡ true → i + run test (drop i s) ≡ at + run test (drop at s) → i + 1 + run test (drop (i + 1) s) ≡ at + run test (drop at s)
  scan_more at n e inv =
      let h : run test (drop i s) ≡ suc (run test (drop (suc i) s)) = run_more test s i n (rw byte at (sym told ∙ e)) in
      rw add-one (omega (arith, h, inv))

  pub scan_over : (at : ℕ) → t ≡ false → i + run test (drop i s) ≡ at + run test (drop at s) → i ≡ at + run test (drop at s)
  scan_over at e inv =
      let h : run test (drop i s) ≡ 0 = run_over test s i (rw byte at (sym told ∙ e)) in
      omega (arith, h, inv)
