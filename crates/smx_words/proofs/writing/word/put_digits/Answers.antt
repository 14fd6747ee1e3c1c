use Rattle.std.proofs.Common.{ℕ, List, ◌++◌, ◌∙◌, sym, ap}
use Rattle.std.proofs.lemmas.Fmt.{decimal_digit}
use Rattle.std.proofs.lemmas.Result.{on_ok_weaker}
use Rattle.smx_words.proofs.writing.word.put_digits.Goals as goal

pub returns-then-n-lt10-clause-written : goal.returns-then-n-lt10-clause-written
returns-then-n-lt10-clause-written c =
    on_ok_weaker c.put_byte.result
    (λ written. written
    ∙ ap (λ (l : List ℕ). c.args.out.now.items ++ l) (sym (decimal_digit c.args.n c.if-n-lt10.true)))
    c.put_byte.ensures
