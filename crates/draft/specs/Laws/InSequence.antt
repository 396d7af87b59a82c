-- The records that a text says stand in the table's sequence, so what is packed reads back as exactly these records.
use Rattle.std.specs.Prelude.{ℕ, zero, suc, ◌-◌, ◌<◌, ◌≤◌, ◌≡◌, refl, Bool, true, false, cond, List, [], ◌∷◌, ◌++◌, map, length, eqb, Result, Ok, Err}
use Rattle.std.proofs.Common.{arith, length-append, eqb-true}
use Rattle.std.proofs.Math.Dec.{eqb-suc-zero}
use Rattle.std.proofs.lemmas.Bool.{eqb-false}
use Rattle.draft.specs.Words.{words_of, lines_of}
use Rattle.draft.specs.Cause.{cause_number}
use Rattle.draft.specs.Forms.{Says, line_says}
use Rattle.draft.specs.declared.cause.Cause.{Cause}
use Rattle.draft.specs.Text.{Lined, Last, no_job, a_job, Draw, job_records, records_of, lined_bytes, refuse, drawn, empty, unless_bare, too_long, with_frame, with_job, add_segment, with_segment, with_line, reading, said, read_line, next_line, read_lines, ended, start, draw_of, says_of}
use Rattle.draft.specs.Packing.{pack_of}
use Rattle.draft.specs.Sequence.{Fits, frame, job, segment, Leads}
use Rattle.draft.specs.Laws.Runs.{never}
use Rattle.draft.specs.Laws.ReadBack.{read_whole, reads_back}
use Rattle.draft.specs.Laws.Fitting.{LineFits, SaysFit, line_fits}
use Rattle.draft.specs.declared.forms.Line.{Line}
use Rattle.draft.specs.declared.forms.Line.TheVariants as Said
use Rattle.table.specs.Records.{place_after, due, reading_of}
use Rattle.table.specs.Refusal.{refusal}
use Rattle.table.specs.declared.records.Place.{Place}
use Rattle.table.specs.declared.records.Place.TheVariants.{First, Next}
use Rattle.table.specs.declared.records.Record.{Record}
use Rattle.table.specs.declared.records.Record.TheVariants.{Frame, Job, Segment}

abbrev pub whats : List Lined → List Record
whats rs = map (λ (r : Lined). r.what) rs

-- segments whose numbers fit
data Segments : List Lined → Type 0 where
  no_more : Segments []
  one_more : {line l h m : ℕ} {ss : List Lined} → Fits (Segment l h m) → Segments ss → Segments (record { line = line; what = Segment l h m } ∷ ss)

add_one_more : {ss : List Lined} (line l h m : ℕ) → Segments ss → Fits (Segment l h m) → Segments (ss ++ record { line = line; what = Segment l h m } ∷ [])
add_one_more line l h m no_more f = one_more f no_more
add_one_more line l h m (one_more g s) f = one_more g (add_one_more line l h m s f)

-- so many segments, where so many are due
segments_lead : {ss : List Lined} (n : ℕ) → n ≡ length ss → Segments ss → Leads (due n) (whats ss) Next
unfolding Leads
segments_lead zero e no_more = refl
segments_lead (suc n) e no_more = absurd (omega arith)
segments_lead zero e (one_more f s) = absurd (omega arith)
segments_lead (suc n) e (one_more f s) =
    let less : suc n - 1 ≡ n = omega arith in
    rw (eqb-suc-zero n) (segment, f, rw less (segments_lead n (omega arith) s))

leads_append : (p q r : Place) (xs ys : List Lined) → Leads p (whats xs) q → Leads q (whats ys) r → Leads p (whats (xs ++ ys)) r
unfolding Leads
leads_append p q r [] ys a b = rw a b
leads_append p q r (x ∷ xs) ys a b = (a.0, a.1, leads_append (place_after p x.what) q r xs ys a.2 b)

-- the last job
abbrev LastFits : Last → Type 0
LastFits no_job = 0 ≤ 0
LastFits (a_job line r p ss) = (r < 4294967296) × (p < 256) × (length ss ≤ 255) × Segments ss

-- what is kept as lines are read
record Sound (x : Draw) : Type 0 where
  leads : empty x.done ≡ false → Leads First (whats x.done) Next
  fits : LastFits x.last
  few : length x.names ≤ 16

-- the last job is none or has a segment
job_leads : (last : Last) → LastFits last → ((line r p : ℕ) → last ≡ a_job line r p [] → ⊥) → Leads Next (whats (job_records last)) Next
unfolding Leads
job_leads no_job f d = refl
job_leads (a_job line r p []) f d = absurd (d line r p refl)
job_leads (a_job line r p (s ∷ ss)) f d = (job, (f.0, f.1, omega (arith, f.2)), segments_lead (length (s ∷ ss)) refl f.3)

all_lead : (x : Draw) → Sound x → empty x.done ≡ false → ((line r p : ℕ) → x.last ≡ a_job line r p [] → ⊥) → Leads First (whats (records_of x)) Next
all_lead x h e d = leads_append First Next Next x.done (job_records x.last) (h.leads e) (job_leads x.last h.fits d)

sound_refused : (x : Draw) (cause n : ℕ) → Sound x → Sound (refuse cause n x)
sound_refused x cause n h = record { leads = h.leads; fits = h.fits; few = h.few }

-- ---- the steps

sound_frame : (n f : ℕ) (x : Draw) → f < 4294967296 → Sound x → Sound (with_frame n f x)
unfolding with_frame Leads
sound_frame n f x l h = go (empty x.done)
  where
    go : (b : Bool) → Sound (cond b (drawn x (record { line = n; what = Frame f } ∷ []) no_job) (refuse 5 n x))
    go true = record { leads = λ e. (frame, l, refl); fits = omega arith; few = h.few }
    go false = sound_refused x 5 n h

sound_job : (n r p : ℕ) (x : Draw) → (r < 4294967296) × (p < 256) → Sound x → Sound (with_job n r p x)
unfolding with_job
sound_job n r p x l h = go (empty x.done) refl
  where
    new : ((line r p : ℕ) → x.last ≡ a_job line r p [] → ⊥) → empty x.done ≡ false → (b : Bool) → Sound (cond b (refuse 9 n x) (drawn x (records_of x) (a_job n r p [])))
    new d e true = sound_refused x 9 n h
    new d e false = record { leads = λ q. all_lead x h e d; fits = (l.0, l.1, omega arith, no_more); few = h.few }

    inner : empty x.done ≡ false → (last : Last) → x.last ≡ last
        → Sound (unless_bare last (λ line. refuse 7 line x) (cond (too_long x (Job r p 0)) (refuse 9 n x) (drawn x (records_of x) (a_job n r p []))))
    inner e no_job q = new (λ line a b w. (cc)) e (too_long x (Job r p 0))
    inner e (a_job line a b []) q = sound_refused x 7 line h
    inner e (a_job line a b (s ∷ ss)) q = new (λ line c d w. (cc)) e (too_long x (Job r p 0))

    go : (b : Bool) → empty x.done ≡ b → Sound (cond b (refuse 5 n x) (unless_bare x.last (λ line. refuse 7 line x)
        (cond (too_long x (Job r p 0)) (refuse 9 n x) (drawn x (records_of x) (a_job n r p [])))))
    go true e = sound_refused x 5 n h
    go false e = inner e x.last refl

sound_segment : (n l k m : ℕ) (x : Draw) → Fits (Segment l k m) → Sound x → Sound (with_segment n (Segment l k m) x)
unfolding with_segment
sound_segment n l k m x f h = go (empty x.done)
  where
    new : (line r p : ℕ) (ss : List Lined) → LastFits (a_job line r p ss) → (many long : Bool) → eqb (length ss) 255 ≡ many
        → Sound (cond many (refuse 7 n x) (cond long (refuse 9 n x) (drawn x x.done (a_job line r p (ss ++ record { line = n; what = Segment l k m } ∷ [])))))
    new line r p ss g true long e = sound_refused x 7 n h
    new line r p ss g false true e = sound_refused x 9 n h
    new line r p ss g false false e = record {
      leads = h.leads;
      fits = (g.0, g.1, omega (arith, g.2, eqb-false (length ss) 255 e, length-append ss (record { line = n; what = Segment l k m } ∷ [])), add_one_more n l k m g.3 f);
      few = h.few;
    }

    inner : (last : Last) → LastFits last → Sound (add_segment n (Segment l k m) x last)
    inner no_job g = sound_refused x 6 n h
    inner (a_job line r p ss) g = new line r p ss g (eqb (length ss) 255) (too_long x (Segment l k m)) refl

    go : (b : Bool) → Sound (cond b (refuse 5 n x) (add_segment n (Segment l k m) x x.last))
    go true = sound_refused x 5 n h
    go false = inner x.last h.fits

sound_line : (n : ℕ) (line : Line) (x : Draw) → LineFits line → Sound x → Sound (with_line n line x)
unfolding with_line
sound_line n Said.Nothing x f h = h
sound_line n (Said.Frame a) x f h = sound_frame n a x f h
sound_line n (Said.Job r p) x f h = sound_job n r p x f h
sound_line n (Said.Segment l k m) x f h = sound_segment n l k m x f h

sound_said : (n : ℕ) (s : Result Says Cause) (x : Draw) → SaysFit s → Sound x → Sound (said n s x)
sound_said n (Ok s) x f h = sound_line n s.line _ f.0 (record { leads = h.leads; fits = h.fits; few = f.1 })
sound_said n (Err cause) x f h = sound_refused (reading n x.names x) (cause_number cause) n (record { leads = h.leads; fits = h.fits; few = h.few })

sound_read : (n : ℕ) (ws : List (List ℕ)) (x : Draw) → Sound x → Sound (read_line n ws x)
unfolding read_line
sound_read n ws x h = go (eqb x.cause 0) (line_fits x.names h.few ws)
  where
    go : (b : Bool) → SaysFit (line_says x.names ws) → Sound (cond b (said n (line_says x.names ws) x) x)
    go true f = sound_said n (line_says x.names ws) x f h
    go false f = h

sound_lines : (n : ℕ) (ls : List (List ℕ)) (x : Draw) → Sound x → Sound (read_lines n ls x)
unfolding read_lines
sound_lines n [] x h = h
sound_lines n (l ∷ ls) x h = sound_lines (next_line n) ls (read_line n (words_of l) x) (sound_read n (words_of l) x h)

sound_start : Sound start
sound_start = record { leads = λ e. never true refl e; fits = omega arith; few = omega arith }

-- a text that ends without a cause has its records in sequence
ended_leads : (x : Draw) → Sound x → (ended x).cause ≡ 0 → Leads First (whats (records_of (ended x))) Next
unfolding ended
ended_leads x h = go (eqb x.cause 0) refl (empty x.done) refl
  where
    last : empty x.done ≡ false → (l : Last) → x.last ≡ l → (unless_bare l (λ line. refuse 7 line x) x).cause ≡ 0
        → Leads First (whats (records_of (unless_bare l (λ line. refuse 7 line x) x))) Next
    last e no_job q z = all_lead x h e (λ line r p w. (cc))
    last e (a_job line r p []) q z = absurd (omega arith)
    last e (a_job line r p (s ∷ ss)) q z = all_lead x h e (λ line a b w. (cc))

    go : (b : Bool) → eqb x.cause 0 ≡ b → (d : Bool) → empty x.done ≡ d
        → (cond b (cond d (refuse 10 x.line x) (unless_bare x.last (λ line. refuse 7 line x) x)) x).cause ≡ 0
        → Leads First (whats (records_of (cond b (cond d (refuse 10 x.line x) (unless_bare x.last (λ line. refuse 7 line x) x)) x))) Next
    go true e true f z = absurd (omega arith)
    go true e false f z = last f x.last refl z
    go false e d f z = absurd (eqb-false x.cause 0 e z)

-- the records that a text says stand in the table's sequence
pub says_lead : (s : List ℕ) → (says_of s).cause ≡ 0 → Leads First (whats (says_of s).records) Next
unfolding says_of draw_of
says_lead s z = ended_leads (read_lines 1 (lines_of s) start) (sound_lines 1 (lines_of s) start sound_start) z

-- so their bytes read whole as exactly these records
pub says_reads_back : (s : List ℕ) → (says_of s).cause ≡ 0
    → reading_of (lined_bytes (says_of s).records) ≡ read_whole 0 (whats (says_of s).records) (length (lined_bytes (says_of s).records))
says_reads_back s z = reads_back (whats (says_of s).records) (says_lead s z)

-- what is packed without a cause is accepted by the table's reader, and reads whole as exactly the records that the text says
pub record Packs (s : List ℕ) : Type 0 where
  pub said : (says_of s).cause ≡ 0
  pub accepted : (refusal (pack_of s).bytes).number ≡ 0
  pub read : reading_of (pack_of s).bytes ≡ read_whole 0 (whats (says_of s).records) (length (pack_of s).bytes)

pub pack_reads_back : (s : List ℕ) → (pack_of s).cause ≡ 0 → Packs s
unfolding pack_of
pack_reads_back s = go (eqb (says_of s).cause 0) refl (eqb (refusal (lined_bytes (says_of s).records)).number 0) refl
  where
    go : (b : Bool) → eqb (says_of s).cause 0 ≡ b → (d : Bool) → eqb (refusal (lined_bytes (says_of s).records)).number 0 ≡ d → (pack_of s).cause ≡ 0 → Packs s
    go true e true f z =
        let none : (says_of s).cause ≡ 0 = eqb-true (says_of s).cause 0 e in
        record { said = none; accepted = rw (e, f) (eqb-true (refusal (lined_bytes (says_of s).records)).number 0 f); read = rw (e, f) (says_reads_back s none) }
    go true e false f z = absurd (let y = rw (e, f) at z in omega arith)
    go false e d f z = absurd (let y = rw e at z in eqb-false (says_of s).cause 0 e y)
