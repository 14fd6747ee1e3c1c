use Rattle.std.proofs.Common.{append_assoc}
use Rattle.smx_words.proofs.EntryLemmas.{call_line, entry_line}
use Rattle.smx_words.proofs.writing.entry.write_entry.Goals as goal

pub returns-clause-written : goal.returns-clause-written
returns-clause-written c =
    rw (
      entry_line (record { process = c.args.process; command = c.args.command.now; reply = c.args.reply.now }),
      call_line (c.args.process, c.args.command.now),
      c.in_ok-write_reply.ensures.written,
      c.in_ok-put_command.ensures.written,
      c.in_ok-put_byte.ensures,
      c.in_ok-put_digits.ensures.written,
      c.get.ensures.value,
    ) (simp append_assoc)
