use Rattle.smx_text.proofs.Common.{rules, sym, ◌∙◌, arith, ap, length-append, err_from_is_err_and, LINE_FEED, header}
use Rattle.std.proofs.Common.{◌≡◌, ◌∷◌, codes, length, ℕ}
use Rattle.smx_text.proofs.ReadingLemmas.{refused, read_to_end, started, refused_behind, ends_behind, any_of}
use Rattle.smx_text.proofs.ReadingLemmas.{any_of_each}
use Rattle.smx_text.proofs.reading.read.Goals as goal

pub returns-in_err-version : goal.returns-in_err-version
returns-in_err-version g c =
    let p = err_from_is_err_and c.from_residual.result c.from_residual.ensures.1 in
    rw (p.1, p.2) (any_of_each g.D.Draft.grammar c.args.bytes.now c.in_err-version.field-0.0
    c.in_err-version.ensures.err)

pub lines-init : goal.lines-init
lines-init g c =
    let is = c.begin-draft.ensures.version in
    let all = c.in_ok-version.ensures.ok in
    record {
      between = rw is (started (g.D.Draft.grammar c.in_ok-version.version) c.args.bytes.now c.in_ok-version.behind.now
          (g.D.Draft.lines c.begin-draft.result) (c.requires c.in_ok-version.version) c.begin-draft.ensures.none all);
      room = omega (
        arith,
        ap (length {A = ℕ}) all,
        length-append (header (g.D.Draft.grammar c.in_ok-version.version)) (LINE_FEED ∷ c.in_ok-version.behind.now),
      );
    }

pub returns-then-eq : goal.returns-then-eq
returns-then-eq g c =
    let end : c.in-Some.text.now ≡ codes "end" = search rules in
    let version = g.D.Draft.version_of c.lines.draft in
    any_of g.D.Draft.grammar c.args.bytes.now version c.ended.result
    (read_to_end (g.D.Draft.grammar version) c.args.bytes.now _ _ _ c.in-Some.text.now c.in-Some.after.now
    c.lines.invariant.between c.in-Some.ensures.next (end ∙ sym (g.met.D.Draft.end_is version)) c.ended.result
    c.ended.ensures)
    (ends_behind (g.D.Draft.grammar version) _ _ _ c.ended.result c.ended.ensures)

pub returns-in-Err : goal.returns-in-Err
returns-in-Err g c =
    let version = g.D.Draft.version_of c.lines.draft in
    let fault = refused (g.D.Draft.grammar version) c.args.bytes.now _ _ _ c.in-Some.text.now
    c.in-Some.after.now c.lines.invariant.between c.in-Some.ensures.next c.in-Err.cause
    c.in-Err.ensures.answers in
    let behind = refused_behind (g.D.Draft.grammar version) _ _ c.in-Err.cause c.in-Err.ensures.answers in
    rw c.at-in-Err.ensures (version, fault, λ header. absurd (behind header))
