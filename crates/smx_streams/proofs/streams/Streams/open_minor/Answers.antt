use Rattle.smx_model.proofs.Common.{◌≡◌, arith}
use Rattle.smx_streams.specs.StreamTables.{minor_answer, numbered}
use Rattle.smx_streams.proofs.NameLemmas.{minor_numbered, minors_at}
use Rattle.smx_streams.proofs.streams.Streams.open_minor.Goals as goal
use Rattle.smx_streams.proofs.streams.Streams.open_minor.Goals.{After-give}

-- the minor is in range, so the stream is opened as the lowest free descriptor
opened : (c : After-give) → minor_answer c.args.self.now c.args.process c.args.driver c.args.minor
    ≡ numbered c.args.self.now c.args.process (record { driver = c.args.driver; minor = c.args.minor })
opened c =
    grind (
      arith,
      minors_at c.self.inside.records.minors c.args.driver c.in-Some.minors c.in-Some.ensures,
      minor_numbered c.args.self.now c.args.process c.args.driver c.args.minor,
    )

pub returns-clause-ok : goal.returns-clause-ok
returns-clause-ok c = grind (arith, opened)

pub returns-clause-err : goal.returns-clause-err
returns-clause-err c = grind (arith, opened)
