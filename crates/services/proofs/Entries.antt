-- A log of entries read off entry by entry.
use Rattle.std.proofs.Common.{◌≡◌, ℕ, zero, suc, ◌+◌, ◌*◌, ◌/◌, ◌<◌, ◌≤◌, List, [], ◌∷◌, ◌++◌, length, get_or, drop, replicate, sym, refl, ap, ◌∙◌, add-one, arith, length-drop, get_or-drop, get_or-take, drop-drop}
use Rattle.std.proofs.Math.ListN.{length-replicate}
use Rattle.std.specs.Simd.{first_chunks}
use Rattle.kernel.specs.declared.jobs.Jobs.{Jobs}
use Rattle.kernel.specs.Rules.{JobSet}
use Rattle.kernel.specs.Held.{set_of, Loaded}
use Rattle.kernel.specs.Laws.Times.{Entry, Reading, unread, read_on, read_all}
use Rattle.services.specs.Told.{credited, ran_next, hearing, heard, times_told, entry_words, entries_words, TellsTimes}
use Rattle.services.specs.declared.told.Ran.{Ran}
use Rattle.services.proofs.Credits.{credit_length}
use Rattle.services.proofs.Telling.{Follows, follows_none, follows_next}

-- i entries of l are read; what is still to come gives the reading of the whole
pub record Going (w : Jobs) (log times : List ℕ) (ran : Ran) (i : ℕ) (l : List Entry) : Type 0 where
  pub rest : List Entry
  pub reading : Reading
  pub follows : Follows w times ran reading
  pub to_come : drop (4 * i) log ≡ entries_words (set_of w) rest
  pub whole : read_all (set_of w) reading rest ≡ read_all (set_of w) (unread (set_of w)) l

-- so of whatever entries the log has
pub record Reads (w : Jobs) (log times : List ℕ) (ran : Ran) (i : ℕ) : Type 0 where
  pub inside : i ≤ length log / 4
  pub size : length times ≡ 64
  pub going : (l : List Entry) → log ≡ entries_words (set_of w) l → Going w log times ran i l

pub reads_none : (w : Jobs) (log times : List ℕ) (ran : Ran) → Loaded w → times ≡ replicate 64 0 → ran ≡ record { job = (set_of w).jobs; segment = 0; since = 0 } → Reads w log times ran 0
reads_none w log times ran L e r = record {
  inside = omega arith;
  size = ap length e ∙ length-replicate {A = ℕ} 64 0;
  going = λ l q. record { rest = l; reading = unread (set_of w); follows = rw (e, r) (follows_none w L); to_come = q; whole = refl };
}

entries_none : (J : JobSet) → entries_words J [] ≡ []
unfolding entries_words
entries_none J = refl

entries_more : (J : JobSet) (v : Entry) (vs : List Entry) → entries_words J (v ∷ vs) ≡ entry_words J v ++ entries_words J vs
unfolding entries_words
entries_more J v vs = refl

module _ (w : Jobs) (log times : List ℕ) (L : Loaded w) (ran : Ran) (i : ℕ) (h : i < length log / 4) (l : List Entry) where
  -- words are left, so that an entry is
  some_left : drop (4 * i) log ≡ [] → ⊥
  some_left e = omega (arith, ap length e, length-drop (4 * i) log)

  -- the words of the next entry
  word_at : (v : Entry) (vs : List Entry) (k : ℕ) → drop (4 * i) log ≡ entries_words (set_of w) (v ∷ vs)
      → get_or log (4 * i + k) 0 ≡ get_or (entry_words (set_of w) v ++ entries_words (set_of w) vs) k 0
  word_at v vs k e = sym (get_or-drop (4 * i) log k 0) ∙ ap (λ (r : List ℕ). get_or r k 0) (e ∙ entries_more (set_of w) v vs)

  later_words : (v : Entry) (vs : List Entry) → drop (4 * i) log ≡ entries_words (set_of w) (v ∷ vs) → drop (4 * (i + 1)) log ≡ entries_words (set_of w) vs
  later_words v vs e =
      let n : 4 * (i + 1) ≡ 4 * i + 4 = omega arith in
      ap (λ (n : ℕ). drop n log) n ∙ sym (drop-drop 4 (4 * i) log) ∙ ap (drop 4) (e ∙ entries_more (set_of w) v vs)

  going_next : (r : List Entry) (m : Reading) → Follows w times ran m → drop (4 * i) log ≡ entries_words (set_of w) r
      → read_all (set_of w) m r ≡ read_all (set_of w) (unread (set_of w)) l
      → Going w log (credited w ran (get_or log (4 * i + 1) 0) times) (ran_next w (get_or log (4 * i + 1) 0) (get_or log (4 * i + 2) 0) (get_or log (4 * i + 3) 0)) (i + 1) l
  going_next [] m F e z = absurd (some_left (e ∙ entries_none (set_of w)))
  going_next (v ∷ vs) m F e z = record {
    rest = vs;
    reading = read_on (set_of w) m v;
    follows = follows_next w times L ran m F _ v _ _ (word_at v vs 1 e) (word_at v vs 2 e) (word_at v vs 3 e);
    to_come = later_words v vs e;
    whole = unfold read_all in z;
  }

pub reads_next : (w : Jobs) (log times more : List ℕ) (ran next : Ran) (i tick job segment : ℕ) → Loaded w → i < length log / 4 → Reads w log times ran i
    → tick ≡ get_or log (4 * i + 1) 0 → job ≡ get_or log (4 * i + 2) 0 → segment ≡ get_or log (4 * i + 3) 0
    → more ≡ credited w ran tick times → next ≡ ran_next w tick job segment → Reads w log more next (i + 1)
reads_next w log times more ran next i tick job segment L h R et ej es em en = record {
  inside = omega arith;
  size = ap length em ∙ credit_length w ran tick times ∙ R.size;
  going = λ l q.
      let G = R.going l q in
      rw (em, en, et, ej, es) (going_next w log times L ran i h l G.rest G.reading G.follows G.to_come G.whole);
}

module _ (w : Jobs) (log times : List ℕ) (ran : Ran) (i : ℕ) where
  -- at the end nothing is to come
  over : (l r : List Entry) (m : Reading) → length log / 4 ≤ i → i ≤ length log / 4 → Follows w times ran m → drop (4 * i) log ≡ entries_words (set_of w) r
      → read_all (set_of w) m r ≡ read_all (set_of w) (unread (set_of w)) l → Follows w times ran (read_all (set_of w) (unread (set_of w)) l)
  over l [] m h q F e z = rw (← z) (unfold read_all in F)
  over l (v ∷ vs) m h q F e z = absurd (omega (arith, ap length (e ∙ entries_more (set_of w) v vs), length-drop (4 * i) log))

  pub reads_all : length log / 4 ≤ i → Reads w log times ran i → TellsTimes w log times
  reads_all h R = record {
    size = R.size;
    tells = λ l q.
        let G = R.going l q in
        (over l G.rest G.reading h R.inside G.follows G.to_come G.whole).told;
  }

-- ---- the times read off a log, whatever its words are

reads : (w : Jobs) (log : List ℕ) → Loaded w → (i : ℕ) → i ≤ length log / 4 → Reads w log (heard w log i).times (heard w log i).ran i
unfolding heard
reads w log L zero h = reads_none w log _ _ L refl refl
reads w log L (suc i) h =
    rw (← add-one i) (reads_next w log (heard w log i).times _ (heard w log i).ran _ i _ _ _ L (omega arith) (reads w log L i (omega arith)) refl refl refl refl refl)

-- as code that reads switch by switch comes to them
pub heard_none : (w : Jobs) (log : List ℕ) (jobs : ℕ) → jobs ≡ (set_of w).jobs
    → heard w log 0 ≡ record { times = replicate 64 0; ran = record { job = jobs; segment = 0; since = 0 } }
unfolding heard
heard_none w log jobs e = rw e

heard_more : (w : Jobs) (log times more : List ℕ) (ran next : Ran) (i tick job segment : ℕ) → heard w log i ≡ record { times = times; ran = ran }
    → tick ≡ get_or log (4 * i + 1) 0 → job ≡ get_or log (4 * i + 2) 0 → segment ≡ get_or log (4 * i + 3) 0
    → more ≡ credited w ran tick times → next ≡ ran_next w tick job segment → heard w log (i + 1) ≡ record { times = more; ran = next }
unfolding heard
heard_more w log times more ran next i tick job segment h et ej es em en =
    rw (add-one i) (ap (hearing w log i) h ∙ rw (em, en, et, ej, es))

-- a word of a log taken four by four
pub word_in : (log : List ℕ) (n i k : ℕ) → i < n → k < 4 → get_or (get_or (first_chunks 4 n log) i []) k 0 ≡ get_or log (4 * i + k) 0
word_in log zero i k h q = absurd (omega arith)
word_in log (suc n) zero k h q =
    let z : 4 * 0 + k ≡ k = omega arith in
    get_or-take 4 log k 0 q ∙ ap (λ (m : ℕ). get_or log m 0) (sym z)
word_in log (suc n) (suc i) k h q =
    let z : 4 * suc i + k ≡ 4 + (4 * i + k) = omega arith in
    word_in (drop 4 log) n i k (omega arith) q ∙ get_or-drop 4 log (4 * i + k) 0 ∙ ap (λ (m : ℕ). get_or log m 0) (sym z)

pub heard_next : (w : Jobs) (log times more : List ℕ) (switches : List (List ℕ)) (ran next : Ran) (i : ℕ) → switches ≡ first_chunks 4 (length log / 4) log
    → length switches ≡ length log / 4 → i < length switches → heard w log i ≡ record { times = times; ran = ran } → more ≡ credited w ran (get_or (get_or switches i []) 1 0) times
    → next ≡ ran_next w (get_or (get_or switches i []) 1 0) (get_or (get_or switches i []) 2 0) (get_or (get_or switches i []) 3 0)
    → heard w log (i + 1) ≡ record { times = more; ran = next }
heard_next w log times more switches ran next i e z h d em en =
    let word : (k : ℕ) → k < 4 → get_or (get_or switches i []) k 0 ≡ get_or log (4 * i + k) 0
    = λ k q. rw e (word_in log (length log / 4) i k (omega arith) q) in
    heard_more w log times more ran next i _ _ _ d (word 1 (omega arith)) (word 2 (omega arith)) (word 3 (omega arith)) em en

-- they are those that its entries tell
pub told_tells : (w : Jobs) (log : List ℕ) → Loaded w → TellsTimes w log (times_told w log)
told_tells w log L = let n : ℕ = length log / 4 in reads_all w log _ _ n (omega arith) (reads w log L n (omega arith))
