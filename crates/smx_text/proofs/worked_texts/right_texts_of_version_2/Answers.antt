use Rattle.std.proofs.Common.{arith, rules, sym}
use Rattle.smx_text.specs.WorkedTexts.{is_text_of_hangups, is_raised_text, is_transcript_of_hangups}
use Rattle.smx_text.specs.WorkedTexts.{is_shortest_transcript}
use Rattle.smx_text.proofs.worked_texts.right_texts_of_version_2.Goals as goal

pub returns : goal.returns
returns c = record {
  hangups = record { allowed = search (rules, arith); text = sym is_text_of_hangups };
  shortest = record { allowed = search (rules, arith); text = sym is_raised_text };
  hangups_spelled = record { allowed = search (rules, arith); text = sym is_transcript_of_hangups };
  shortest_transcript = record { allowed = search (rules, arith); text = sym is_shortest_transcript };
}
