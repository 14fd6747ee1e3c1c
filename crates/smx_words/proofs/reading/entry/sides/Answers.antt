use Rattle.std.proofs.Common.{[], ◌∷◌, ◌++◌, ◌∙◌, refl}
use Rattle.std.specs.Prelude.{codes}
use Rattle.smx_words.proofs.EntryLemmas.{regrouped, same_sides, sides_are}
use Rattle.smx_words.proofs.reading.entry.sides.Goals as goal

pub returns-in_err-front : goal.returns-in_err-front
returns-in_err-front c = rw c.from_residual.ensures (λ command reply free e.
    c.in_err-front.ensures (command ++ 32 ∷ []) (32 ∷ reply) (e ∙ regrouped command reply))

pub returns-in_err-call : goal.returns-in_err-call
returns-in_err-call c = rw c.from_residual-in_err-call.ensures (λ command reply free e.
    let same =
    same_sides c.args.line.now c.in_ok-front.front.now c.in_ok-front.back.now command reply c.in_ok-front.ensures.0
    c.in_ok-front.ensures.1 free e in
    c.in_err-call.ensures command same.0)

pub returns-in_err-reply : goal.returns-in_err-reply
returns-in_err-reply c = rw c.from_residual-in_err-reply.ensures (λ command reply free e.
    let same =
    same_sides c.args.line.now c.in_ok-front.front.now c.in_ok-front.back.now command reply c.in_ok-front.ensures.0
    c.in_ok-front.ensures.1 free e in
    c.in_err-reply.ensures reply same.1)

pub returns : goal.returns
returns c =
    sides_are c.args.line.now c.in_ok-front.front.now c.in_ok-front.back.now c.in_ok-call.call.now
    c.in_ok-reply.reply.now (codes " ") refl c.in_ok-front.ensures.0 c.in_ok-front.ensures.1 c.in_ok-call.ensures
    c.in_ok-reply.ensures
