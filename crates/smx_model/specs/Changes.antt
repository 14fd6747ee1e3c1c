-- The changes from one view to another: the lines that are gone, those that are new, and the messages that moved.
use Rattle.std.specs.Prelude.{Bool, not, ◌==◌, List, ◌++◌, map, filter, find, Some, None}
use Rattle.std.specs.List.{list_any}
use Rattle.smx_types.specs.contracts.view.BindingLinePartialEq.TheImpl as of_bind
use Rattle.smx_types.specs.contracts.view.DescriptorLinePartialEq.TheImpl as of_fd
use Rattle.smx_types.specs.contracts.view.FullLinePartialEq.TheImpl as of_full
use Rattle.smx_types.specs.contracts.view.HungLinePartialEq.TheImpl as of_hung
use Rattle.smx_types.specs.contracts.view.LinkLinePartialEq.TheImpl as of_link
use Rattle.smx_types.specs.contracts.view.MessageLinePartialEq.TheImpl as of_message
use Rattle.smx_types.specs.contracts.view.RouteLinePartialEq.TheImpl as of_route
use Rattle.smx_types.specs.declared.view.BindingLine.{BindingLine}
use Rattle.smx_types.specs.declared.view.ConfigView.{ConfigView}
use Rattle.smx_types.specs.declared.view.DescriptorLine.{DescriptorLine}
use Rattle.smx_types.specs.declared.view.FullLine.{FullLine}
use Rattle.smx_types.specs.declared.view.HungLine.{HungLine}
use Rattle.smx_types.specs.declared.view.LinkLine.{LinkLine}
use Rattle.smx_types.specs.declared.view.MessageLine.{MessageLine}
use Rattle.smx_types.specs.declared.view.RouteLine.{RouteLine}

-- a line of a view after its first one, by its group
pub data ViewLine : Type 0 where
  Fd : DescriptorLine → ViewLine
  Link : LinkLine → ViewLine
  Bind : BindingLine → ViewLine
  Route : RouteLine → ViewLine
  Msg : MessageLine → ViewLine
  Full : FullLine → ViewLine
  Hung : HungLine → ViewLine

-- a line that is gone; a line that is new; a message that moved, as it was and as it is
pub data Change : Type 0 where
  Gone : ViewLine → Change
  New : ViewLine → Change
  Moved : MessageLine → MessageLine → Change

-- the elements of the first list that are the same as none of the second
abbrev pub missing_from : {X : Type 0} → (X → X → Bool) → List X → List X → List X
missing_from same xs ys = filter (λ x. not (list_any (same x) ys)) xs

-- the changes of a group: its lines that are gone, then those that are new, in the order of the views
abbrev pub group_changes : {X : Type 0} → (X → X → Bool) → (X → ViewLine) → List X → List X → List Change
group_changes same line before after =
    map (λ x. Gone (line x)) (missing_from same before after)
    ++ map (λ y. New (line y)) (missing_from same after before)

-- both lines show the message with one serial; serials are never used again
abbrev pub same_serial : MessageLine → MessageLine → Bool
same_serial m n = m.message.serial == n.message.serial

-- the change of a message that is not where it was: it moved, or it is new
abbrev pub arrival_change : List MessageLine → MessageLine → Change
arrival_change before m = elim (find (same_serial m) before) [ None ↦ New (Msg m) | Some was ↦ Moved was m ]

-- the messages that are gone, and then those that moved or are new, in the order of the views
abbrev pub message_changes : List MessageLine → List MessageLine → List Change
message_changes before after = map (λ m. Gone (Msg m)) (missing_from same_serial before after)
    ++ map (arrival_change before) (missing_from of_message.ghosts.eq after before)

-- all changes, group by group; the next id and the next serial are left out
abbrev pub changes : ConfigView → ConfigView → List Change
changes before after = group_changes of_fd.ghosts.eq Fd before.fds after.fds
    ++ (group_changes of_link.ghosts.eq Link before.links after.links
    ++ (group_changes of_bind.ghosts.eq Bind before.binds after.binds
    ++ (group_changes of_route.ghosts.eq Route before.routes after.routes
    ++ (message_changes before.msgs after.msgs
    ++ (group_changes of_full.ghosts.eq Full before.fulls after.fulls
    ++ group_changes of_hung.ghosts.eq Hung before.hungs after.hungs)))))
