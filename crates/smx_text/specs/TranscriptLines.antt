-- The lines of a transcript text after its header.
use Rattle.std.specs.Prelude.{ℕ}
use Rattle.smx_types.specs.declared.command.Entry.{Entry as AnyEntry}
use Rattle.smx_types.specs.declared.driver.DriverSpec.{DriverSpec}
use Rattle.smx_types.specs.declared.view.BindingLine.{BindingLine}
use Rattle.smx_types.specs.declared.view.DescriptorLine.{DescriptorLine}
use Rattle.smx_types.specs.declared.view.FullLine.{FullLine}
use Rattle.smx_types.specs.declared.view.HungLine.{HungLine}
use Rattle.smx_types.specs.declared.view.LinkLine.{LinkLine}
use Rattle.smx_types.specs.declared.view.MessageLine.{MessageLine}
use Rattle.smx_types.specs.declared.view.RouteLine.{RouteLine}

-- a driver; an entry of the history; the start of the configuration; the next id and the next serial; the lines of
-- the view; the end
pub data TranscriptLine : Type 0 where
  Driver : DriverSpec → TranscriptLine
  Entry : AnyEntry → TranscriptLine
  Config : TranscriptLine
  Next : ℕ → ℕ → TranscriptLine
  Fd : DescriptorLine → TranscriptLine
  Link : LinkLine → TranscriptLine
  Bind : BindingLine → TranscriptLine
  Route : RouteLine → TranscriptLine
  Msg : MessageLine → TranscriptLine
  Full : FullLine → TranscriptLine
  Hung : HungLine → TranscriptLine
  End : TranscriptLine
