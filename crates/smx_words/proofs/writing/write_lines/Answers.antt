use Rattle.std.proofs.Common.{◌∷◌, ◌++◌, [], ap, sym, take, ◌∙◌}
use Rattle.std.proofs.lemmas.List.{append-nil, take_all, take_more}
use Rattle.smx_words.proofs.WritingLemmas.{all_more, lines_more}
use Rattle.smx_words.proofs.writing.write_lines.Goals as goal

pub loop-item-preserved : goal.loop-item-preserved
loop-item-preserved g c =
    let more = take_more c.args.items.now c.loop-item.item-index c.item-item.result c.loop-item-test.true in
    let one = more ∙ ap (λ x. take c.loop-item.item-index c.args.items.now ++ x ∷ []) (sym c.item-item.is) in
    record {
      written =
          lines_more g.T.Spell.words c.args.items.now c.loop-item.item-index c.item-item.result
          c.write_line.new.out.items c.loop-item.out.items c.args.out.now.items one
          c.in_ok-write_line.ensures.written
          c.loop-item.invariant.written;
      fits =
          all_more g.T.Spell.Fits c.args.items.now c.loop-item.item-index c.item-item.result one
          c.in_ok-write_line.ensures.fits
          c.loop-item.invariant.fits;
    }

pub loop-item-init : goal.loop-item-init
loop-item-init g c = record { written = sym (append-nil _); fits = tt }

pub returns-clause-written : goal.returns-clause-written
returns-clause-written g c =
    rw (take_all c.loop-item.item-index c.args.items.now c.loop-item-test.false) at c.loop-item.invariant.written

pub returns-clause-fits : goal.returns-clause-fits
returns-clause-fits g c =
    rw (take_all c.loop-item.item-index c.args.items.now c.loop-item-test.false) at c.loop-item.invariant.fits
