use Rattle.std.proofs.Common.{rules, arith, ◌≡◌, ◌<◌}
use Rattle.draft.specs.Words.{is_white, is_wordly}
use Rattle.draft.specs.Laws.Lexing.{no_words, some_words}
use Rattle.draft.proofs.text.next_word.Goals as goal

pub returns-then-is_empty : goal.returns-then-is_empty
returns-then-is_empty c =
    let k : c.run-2.result ≡ 0 = search rules in
    no_words c.args.text.now _ _ _ (c.run.ensures.value is_white (search rules)) (c.run-2.ensures.value is_wordly (search rules)) c.split_at.ensures.back k

pub returns : goal.returns
returns c =
    let k : 0 < c.run-2.result = search rules in (
      rw (c.split_at-2.ensures.front, c.split_at-2.ensures.back)
          (some_words c.args.text.now _ _ _ (c.run.ensures.value is_white (search rules)) (c.run-2.ensures.value is_wordly (search rules)) c.split_at.ensures.back k),
      omega (arith, k, c.split_at.ensures.back_len, c.split_at-2.ensures.back_len),
    )
