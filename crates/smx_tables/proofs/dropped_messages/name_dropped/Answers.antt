use Rattle.std.proofs.Common.{ℕ, Vec, Global, ap, subst, sym, ◌∙◌, arith}
use Rattle.std.proofs.lemmas.Bool.Decides.{nat_tests}
use Rattle.smx_types.specs.declared.reply.Reply.TheVariants.{Done}
use Rattle.smx_tables.specs.DroppedMessages.{AreDropped}
use Rattle.smx_tables.proofs.DropLemmas.{none_left}
use Rattle.smx_tables.proofs.dropped_messages.name_dropped.Goals as goal
use Rattle.smx_tables.proofs.dropped_messages.name_dropped.Goals.{then-is_empty, else-is_empty}

pub returns : goal.returns
returns c = λ left old apart h. ap Done (c.from_vec.ensures ∙ elim c.if-is_empty.branch [
  | then-is_empty w ↦
      ap (λ (v : Vec ℕ Global). v.items) w.named-is ∙ c.new-none.ensures.items
      ∙ none_left old left c.args.dropped.now.items apart h
      (grind (arith, nat_tests, c.args.dropped.now.ok.0, c.is_empty.ensures, w.if-is_empty.true))
  | else-is_empty w ↦
      ap (λ (v : Vec ℕ Global). v.items) w.named-is
      ∙ w.rising-named.ensures old left apart (subst (λ (v : Vec ℕ Global). AreDropped old left v.items)
      (sym w.replace.ensures.value) h)
])
