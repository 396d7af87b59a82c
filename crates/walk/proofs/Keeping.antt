-- What a walk keeps over its steps.
use Rattle.std.proofs.Common.{ℕ, ◌≡◌, refl, ◌∙◌, List, length}
use Rattle.std.proofs.Math.ListN.{set}
use Rattle.std.specs.Borrow.{MutBor}
use Rattle.walk.specs.State.{standing_at}
use Rattle.walk.specs.Counts.{Room}
use Rattle.walk.specs.Descent.{with_job, Kept}
use Rattle.walk.specs.Laws.Standing.{put_back}
use Rattle.walk.specs.declared.state.Standing.{Standing}
use Rattle.walk.specs.declared.counts.Counts.{Counts}
use Rattle.walk.specs.declared.descent.Walk.{Walk}

pub kept_all : (o : Walk) → Kept o o
kept_all o = record { set = refl; cap = refl; state = refl; same_words = refl; long = refl }

pub kept_on : {o n m : Walk} → Kept o n → Kept n m → Kept o m
kept_on K H = record {
  set = H.set ∙ K.set;
  cap = H.cap ∙ K.cap;
  state = H.state ∙ K.state;
  same_words = H.same_words ∙ K.same_words;
  long = H.long ∙ K.long;
}

-- a job stands otherwise, and is put back
pub kept_back : {o n : Walk} (j : ℕ) (x : Standing) {b : MutBor (List ℕ)} {c : Counts} {r : Room c o.cap} {again : Room n.seen n.cap}
    → Kept (record { set = o.set; words = b; state = set o.state j x; seen = c; cap = o.cap; room = r }) n
    → b.ghost_name ≡ o.words.ghost_name → length b.now ≡ length o.words.now → Kept o (with_job n j (standing_at o.state j) again)
kept_back {o} {n} j x K eg el = record {
  set = K.set;
  cap = K.cap;
  state = rw K.state (put_back o.state j x);
  same_words = K.same_words ∙ eg;
  long = K.long ∙ el;
}
