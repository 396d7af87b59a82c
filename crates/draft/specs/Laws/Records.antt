-- Bytes and lines of the records of a draft.
use Rattle.std.specs.Prelude.{ℕ, zero, suc, ◌+◌, ◌<◌, ◌≤◌, ◌≡◌, refl, Bool, true, false, List, [], ◌∷◌, ◌++◌, length, get_or, set, eqb}
use Rattle.std.proofs.Common.{drop_of_length-le, take_all, arith, sym, ◌∙◌, ap, append_assoc, append-nil, length-append, length-set, get_or-set_same, get_or-set_other, ne_eqb, eqb-true}
use Rattle.std.proofs.lemmas.Bool.{eqb-false}
use Rattle.std.specs.List.{refill}
use Rattle.draft.specs.Bytes.{record_bytes, bytes_of}
use Rattle.draft.specs.Text.{Lined, lined_bytes}
use Rattle.draft.specs.Packing.{line_at}
use Rattle.draft.specs.Laws.ReadBack.{record_size, size_pos}
use Rattle.table.specs.Records.{size_of}
use Rattle.table.specs.declared.records.Record.TheVariants.{Job}

-- the bytes of records after others
pub bytes_append : (xs ys : List Lined) → lined_bytes (xs ++ ys) ≡ lined_bytes xs ++ lined_bytes ys
unfolding bytes_of
bytes_append [] ys = refl
bytes_append (x ∷ xs) ys = rw (bytes_append xs ys) (sym (append_assoc (record_bytes x.what) (lined_bytes xs) (lined_bytes ys)))

pub bytes_one : (r : Lined) → lined_bytes (r ∷ []) ≡ record_bytes r.what
unfolding bytes_of
bytes_one r = append-nil (record_bytes r.what)

pub size_append : (xs ys : List Lined) → length (lined_bytes (xs ++ ys)) ≡ length (lined_bytes xs) + length (lined_bytes ys)
size_append xs ys = ap length (bytes_append xs ys) ∙ length-append (lined_bytes xs) (lined_bytes ys)

pub size_one : (r : Lined) → length (lined_bytes (r ∷ [])) ≡ size_of r.what
size_one r = ap length (bytes_one r) ∙ record_size r.what

size_cons : (x : Lined) (xs : List Lined) → length (lined_bytes (x ∷ xs)) ≡ size_of x.what + length (lined_bytes xs)
unfolding bytes_of
size_cons x xs = length-append (record_bytes x.what) (lined_bytes xs) ∙ rw (record_size x.what)

pub size_none : length (lined_bytes []) ≡ 0
unfolding bytes_of
size_none = refl

-- no record has no byte
pub size_some : (x : Lined) (xs : List Lined) → 0 < length (lined_bytes (x ∷ xs))
size_some x xs = omega (arith, size_cons x xs, size_pos x.what)

-- ---- lines

line_append : (at end k : ℕ) (xs ys : List Lined) (d : ℕ) → end ≡ at + length (lined_bytes xs) → line_at at k (xs ++ ys) d ≡ line_at at k xs (line_at end k ys d)
unfolding line_at
line_append at end k [] ys d e = let h : end ≡ at = omega (arith, e, size_none) in rw h
line_append at end k (x ∷ xs) ys d e = rw (line_append (at + size_of x.what) end k xs ys d (omega (arith, e, size_cons x xs)))

line_beyond : (at k : ℕ) (xs : List Lined) (d : ℕ) → at + length (lined_bytes xs) ≤ k → line_at at k xs d ≡ d
unfolding line_at
line_beyond at k [] d h = refl
line_beyond at k (x ∷ xs) d h =
    rw (ne_eqb at k (λ (q : at ≡ k). omega (arith, h, size_some x xs))) (line_beyond (at + size_of x.what) k xs d (omega (arith, h, size_cons x xs)))

-- one record more, whose line is noted at the place of its mark
pub line_more : (lines : List ℕ) (rs : List Lined) (r : Lined) (at : ℕ) → at ≡ length (lined_bytes rs) → at < length lines → ((k : ℕ) → get_or lines k 0 ≡ line_at 0 k rs 0)
    → (k : ℕ) → get_or (set lines at r.line) k 0 ≡ line_at 0 k (rs ++ r ∷ []) 0
unfolding line_at
line_more lines rs r at e l h k = go (eqb at k) refl
  where
    go : (b : Bool) → eqb at k ≡ b → get_or (set lines at r.line) k 0 ≡ line_at 0 k (rs ++ r ∷ []) 0
    go true q =
        let p : at ≡ k = eqb-true at k q in
        let here : get_or (set lines at r.line) k 0 ≡ r.line = rw (← p) (get_or-set_same lines at r.line 0 l) in
        here ∙ sym (line_append 0 at k rs (r ∷ []) 0 (omega (arith, e)) ∙ rw q (line_beyond 0 k rs r.line (omega (arith, e, p))))
    go false q =
        get_or-set_other lines at k r.line 0 (λ (p : k ≡ at). eqb-false at k q (sym p)) ∙ h k ∙ sym (line_append 0 at k rs (r ∷ []) 0 (omega (arith, e)) ∙ rw q)

-- a job's count does not matter for the lines
pub line_counted : (k : ℕ) (done ss : List Lined) (line release priority m n : ℕ)
    → line_at 0 k (done ++ record { line = line; what = Job release priority m } ∷ ss) 0 ≡ line_at 0 k (done ++ record { line = line; what = Job release priority n } ∷ ss) 0
unfolding line_at
line_counted k done ss line release priority m n =
    line_append 0 (length (lined_bytes done)) k done _ 0 (omega arith) ∙ sym (line_append 0 (length (lined_bytes done)) k done _ 0 (omega arith))

-- ---- a byte stored

store_after : (xs ys : List ℕ) (i j v : ℕ) → j ≡ length xs + i → set (xs ++ ys) j v ≡ xs ++ set ys i v
store_after [] ys i j v e = let h : j ≡ i = omega arith in rw h
store_after (x ∷ xs) ys i zero v e = absurd (omega arith)
store_after (x ∷ xs) ys i (suc j) v e = ap (λ (l : List ℕ). x ∷ l) (store_after xs ys i j v (omega arith))

-- one byte stored in bytes that were lent whole
pub store_lent : (xs ys : List ℕ) (i v : ℕ) → ys ≡ xs → refill (length xs) xs (set ys i v) ≡ set xs i v
store_lent xs ys i v e =
    let l : length (set xs i v) ≡ length xs = length-set xs i v in
    let over : length xs ≤ length xs = omega arith in
    rw (e, l, drop_of_length-le xs over, append-nil (set xs i v)) (take_all (length xs) (set xs i v) (omega arith))

-- a job's bytes, with another count
recount : (release priority m n : ℕ) (rest : List ℕ) → set (record_bytes (Job release priority m) ++ rest) 7 n ≡ record_bytes (Job release priority n) ++ rest
unfolding record_bytes
recount release priority m n rest = refl

-- ---- one record more

pub bytes_more : (rs : List Lined) (r : Lined) → lined_bytes (rs ++ r ∷ []) ≡ lined_bytes rs ++ record_bytes r.what
bytes_more rs r = bytes_append rs (r ∷ []) ∙ ap (λ (b : List ℕ). lined_bytes rs ++ b) (bytes_one r)

-- a job's bytes among others
job_bytes : (done ss : List Lined) (line release priority n : ℕ)
    → lined_bytes (done ++ record { line = line; what = Job release priority n } ∷ ss) ≡ lined_bytes done ++ (record_bytes (Job release priority n) ++ lined_bytes ss)
unfolding bytes_of
job_bytes done ss line release priority n = bytes_append done (record { line = line; what = Job release priority n } ∷ ss)

-- the count of a job stored among the bytes, the job's at `job`
pub bytes_counted : (done ss : List Lined) (line release priority m n job : ℕ) → job ≡ length (lined_bytes done)
    → set (lined_bytes (done ++ record { line = line; what = Job release priority m } ∷ ss)) (job + 7) n ≡ lined_bytes (done ++ record { line = line; what = Job release priority n } ∷ ss)
bytes_counted done ss line release priority m n job e =
    rw (job_bytes done ss line release priority m, job_bytes done ss line release priority n)
    (store_after (lined_bytes done) (record_bytes (Job release priority m) ++ lined_bytes ss) 7 (job + 7) n (omega (arith, e))
    ∙ ap (λ (b : List ℕ). lined_bytes done ++ b) (recount release priority m n (lined_bytes ss)))

-- its size does not depend on the count
pub size_counted : (done ss : List Lined) (line release priority m n : ℕ)
    → length (lined_bytes (done ++ record { line = line; what = Job release priority m } ∷ ss)) ≡ length (lined_bytes (done ++ record { line = line; what = Job release priority n } ∷ ss))
size_counted done ss line release priority m n =
    size_append done _ ∙ rw (size_cons (record { line = line; what = Job release priority m }) ss) (sym (size_append done _ ∙ rw (size_cons (record { line = line; what = Job release priority n }) ss)))
