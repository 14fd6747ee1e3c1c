use Rattle.std.proofs.Common.{◌≡◌, ◌++◌, ◌∙◌, ℕ, List, [], true, ap, append_assoc, arith, inl, inr, length, sym}
use Rattle.std.proofs.KnownBytes.{Consumes-trans}
use Rattle.std.proofs.lemmas.List.{append-nil}
use Rattle.std.proofs.lemmas.Result.{err_from_is_err_and}
use Rattle.smx_live.proofs.InboxLemmas.{fails_as, found_line, none_before, none_found, too_long}
use Rattle.smx_live.proofs.inbox.Inbox.next_line.Goals as goal
use Rattle.smx_live.proofs.inbox.Inbox.next_line.Goals.{then-is_some-via-then-is_some}
use Rattle.smx_live.proofs.inbox.Inbox.next_line.Goals.{then-is_some-via-else-is_some+then-self}

pub returns-then-unwrap_or-gt-MAX_INPUT : goal.returns-then-unwrap_or-gt-MAX_INPUT
returns-then-unwrap_or-gt-MAX_INPUT g c =
    let inv = c.reads.invariant in
    let (read, consumed, held, stays) = inv.so_far in
    let long = too_long c.reads.self.held.items c.line_from-line.result c.len-seen.result
    (omega (arith, c.len-seen.ensures, c.reads.self.held.ok.0)) (rw c.deref.ensures.value at c.line_from-line.ensures)
    (omega (arith, c.if-unwrap_or-gt-MAX_INPUT.true, c.unwrap_or.ensures)) in
    (read, record { consumed = consumed; came = (inv.fine, rw held at long); stays = stays })

pub returns-then-is_some : goal.returns-then-is_some
returns-then-is_some g c =
    let inv = c.reads.invariant in
    let (read, consumed, held, stays) = inv.so_far in (
      read,
      record {
        consumed = consumed;
        came = record {
          held = held;
          end = inv.end;
          fine = inv.fine;
          found = found_line _ c.reads.self.held.items c.line_from-line.result c.len-seen.result
              (omega (arith, c.len-seen.ensures, c.reads.self.held.ok.0))
              (rw c.deref.ensures.value at c.line_from-line.ensures)
              (omega (arith, c.if-unwrap_or-gt-MAX_INPUT.false, c.unwrap_or.ensures))
              (elim c.then-is_some.branch [
                | then-is_some-via-then-is_some w ↦ inl (sym c.is_some.ensures ∙ w.if-is_some.true)
                | then-is_some-via-else-is_some+then-self w ↦ inr (inv.end ∙ w.if-self.true)
              ]);
        };
        stays = stays;
      },
    )

pub reads-preserved : goal.reads-preserved
reads-preserved g c =
    let inv = c.reads.invariant in
    let (read, consumed, held, stays) = inv.so_far in
    let (piece, p) = c.in_ok-read_piece.ensures in
    let len : c.len-seen.result ≡ length c.reads.self.held.items =
    omega (arith, c.len-seen.ensures, c.reads.self.held.ok.0) in
    let short = none_found c.reads.self.held.items c.line_from-line.result c.len-seen.result len
    (rw c.deref.ensures.value at c.line_from-line.ensures)
    (omega (arith, c.if-unwrap_or-gt-MAX_INPUT.false, c.unwrap_or.ensures))
    (sym c.is_some.ensures ∙ c.if-is_some.false) in
    let (seen, none) = none_before c.reads.self.held.items piece c.read_piece.new.held.items c.len-seen.result len
    p.held_now short.0 in
    record {
      so_far = (
        read ++ piece,
        Consumes-trans _ _ _ read piece consumed p.consumed,
        p.held_now ∙ ap (λ (bs : List ℕ). bs ++ piece) held ∙ append_assoc c.args.self.now.held.items read piece,
        λ was. absurd (cc ((stays was).1, inv.end, c.if-self.false)),
      );
      seen = seen;
      none = none;
      end = elim p.some [
        | inl more ↦ more.2 ∙ sym c.if-self.false
        | inr none ↦ absurd (cc (c.if-not-branch.false, none.0))
      ];
      fine = p.fine;
    }

pub returns-then-not-branch : goal.returns-then-not-branch
returns-then-not-branch g c =
    let inv = c.reads.invariant in
    let (read, consumed, held, stays) = inv.so_far in
    let (piece, p) = c.in_ok-read_piece.ensures in
    let short = none_found c.reads.self.held.items c.line_from-line.result c.len-seen.result
    (omega (arith, c.len-seen.ensures, c.reads.self.held.ok.0)) (rw c.deref.ensures.value at c.line_from-line.ensures)
    (omega (arith, c.if-unwrap_or-gt-MAX_INPUT.false, c.unwrap_or.ensures))
    (sym c.is_some.ensures ∙ c.if-is_some.false) in
    let last : (piece ≡ []) × (g.F.Feed.ended c.read_piece.new.feed ≡ true) = elim p.some [
      | inl more ↦ absurd (cc (more.0, c.if-not-branch.true))
      | inr none ↦ (none.1, none.2)
    ] in
    let same : c.read_piece.new.held.items ≡ c.reads.self.held.items = rw (last.0, append-nil) at p.held_now in (
      read ++ piece,
      record {
        consumed = Consumes-trans _ _ _ read piece consumed p.consumed;
        came = record {
          held = p.held_now ∙ ap (λ (bs : List ℕ). bs ++ piece) held
              ∙ append_assoc c.args.self.now.held.items read piece;
          end = last.1;
          fine = p.fine;
          found = (last.1, rw same short);
        };
        stays = λ was. absurd (cc ((stays was).1, inv.end, c.if-self.false));
      },
    )

pub returns-in_err-read_piece : goal.returns-in_err-read_piece
returns-in_err-read_piece g c =
    let inv = c.reads.invariant in
    let (read, consumed, held, stays) = inv.so_far in
    let (piece, p) = c.in_err-read_piece.ensures in
    let (fault, is, of) = err_from_is_err_and c.from_residual.result c.from_residual.ensures.1 in
    let short = none_found c.reads.self.held.items c.line_from-line.result c.len-seen.result
    (omega (arith, c.len-seen.ensures, c.reads.self.held.ok.0)) (rw c.deref.ensures.value at c.line_from-line.ensures)
    (omega (arith, c.if-unwrap_or-gt-MAX_INPUT.false, c.unwrap_or.ensures))
    (sym c.is_some.ensures ∙ c.if-is_some.false) in
    let one = rw held at short.0 in
    rw (is, of) (
      read ++ piece,
      record {
        consumed = Consumes-trans _ _ _ read piece consumed p.consumed;
        came = fails_as _ (λ long. absurd long) (λ none. rw (none, append-nil) one) c.in_err-read_piece.field-0.0
            p.fault;
        stays = λ was. absurd (cc ((stays was).1, inv.end, c.if-self.false));
      },
    )
