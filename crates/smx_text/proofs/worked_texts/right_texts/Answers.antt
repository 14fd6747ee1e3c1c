use Rattle.std.proofs.Common.{arith, rules, sym}
use Rattle.smx_text.specs.WorkedTexts.{is_shortest_text, is_text, is_transcript}
use Rattle.smx_text.proofs.worked_texts.right_texts.Goals as goal

pub returns : goal.returns
returns c = record {
  each_command = record { allowed = search (rules, arith); text = sym is_text };
  shortest = record { allowed = search (rules, arith); text = sym is_shortest_text };
  each_reply = record { allowed = search (rules, arith); text = sym is_transcript };
}
