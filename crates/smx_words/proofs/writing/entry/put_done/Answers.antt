use Rattle.std.proofs.Common.{◌∙◌, append_assoc}
use Rattle.std.proofs.lemmas.Result.{on_ok_weaker}
use Rattle.std.specs.Prelude.{codes}
use Rattle.smx_words.proofs.WritingLemmas.{numbers_line}
use Rattle.smx_words.proofs.writing.entry.put_done.Goals as goal

pub returns-clause-written : goal.returns-clause-written
returns-clause-written c =
    on_ok_weaker c.put_byte.result (λ last. last
    ∙ rw (
      numbers_line (codes "done") c.args.dropped.now,
      c.in_ok-put_serials.ensures.written,
      c.in_ok-put_text-2.ensures,
    ) (simp append_assoc))
    c.put_byte.ensures
