-- `==` on the larger values, for which one search through all cases at once finds no proof.
use Rattle.std.specs.Prelude.{◌≡◌, ℕ, Bool, false, List}
use Rattle.std.proofs.Common.{rules, arith, refl, ap, ◌∙◌, eqb}
use Rattle.std.specs.Bool.{Decides}
use Rattle.std.specs.Cmp.Lexicographic.{pointwise, pointwise_decides}
use Rattle.std.proofs.lemmas.Bool.Decides.{Decides-and, nat_tests}
use Rattle.smx_types.specs.declared.command.Command.{Command}
use Rattle.smx_types.specs.declared.command.Command.TheVariants as command
use Rattle.smx_types.specs.declared.driver.DriverSpec.{DriverSpec}
use Rattle.smx_types.specs.declared.programs.Many.{Many}
use Rattle.smx_types.specs.declared.version.Version.{Version}
use Rattle.smx_types.specs.ProgramLists.{ProgramLists}
use Rattle.smx_types.specs.contracts.command.CommandPartialEq.TheImpl as of_command
use Rattle.smx_types.specs.contracts.command.EntryPartialEq.TheImpl as of_entry
use Rattle.smx_types.specs.contracts.driver.DriverSpecPartialEq.TheImpl as of_driver
use Rattle.smx_types.specs.contracts.programs.ManyPartialEq.TheImpl as of_many
use Rattle.smx_types.specs.contracts.programs.ProgramsPartialEq.TheImpl as of_programs
use Rattle.smx_types.specs.contracts.reply.ReplyPartialEq.TheImpl as of_reply
use Rattle.smx_types.specs.contracts.version.VersionPartialEq.TheImpl as of_version
use Rattle.smx_types.specs.contracts.view.BindingLinePartialEq.TheImpl as of_binding_line
use Rattle.smx_types.specs.contracts.view.ConfigViewPartialEq.TheImpl as of_view
use Rattle.smx_types.specs.contracts.view.DescriptorLinePartialEq.TheImpl as of_descriptor_line
use Rattle.smx_types.specs.contracts.view.FullLinePartialEq.TheImpl as of_full_line
use Rattle.smx_types.specs.contracts.view.HungLinePartialEq.TheImpl as of_hung_line
use Rattle.smx_types.specs.contracts.view.LinkLinePartialEq.TheImpl as of_link_line
use Rattle.smx_types.specs.contracts.view.MessageLinePartialEq.TheImpl as of_message_line
use Rattle.smx_types.specs.contracts.view.RouteLinePartialEq.TheImpl as of_route_line

-- the test returns whether both values are equal
abbrev pub Tells : {X : Type 0} → (X → X → Bool) → Type 0
Tells {X} test = (a b : X) → Decides (test a b) (a ≡ b)

-- a number for each kind of command
abbrev number_of : Command → ℕ
number_of (command.OpenClone _) = 0
number_of (command.OpenMinor _ _) = 1
number_of (command.Dup _) = 2
number_of (command.Close _) = 3
number_of command.CloseAll = 4
number_of (command.Link _ _) = 5
number_of (command.Plink _ _) = 6
number_of (command.Unlink _ _) = 7
number_of (command.Punlink _ _) = 8
number_of (command.Bind _ _) = 9
number_of (command.Unbind _) = 10
number_of (command.Route _ _ _) = 11
number_of (command.Unroute _ _) = 12
number_of (command.Write _ _ _) = 13
number_of (command.Read _) = 14
number_of (command.Flush _ _) = 15
number_of (command.Inject _ _ _ _) = 16
number_of (command.Transmit _ _) = 17
number_of (command.Hangup _ _) = 18

-- two commands of different kinds differ, and the test returns false
apart : (a b : Command) → eqb (number_of a) (number_of b) ≡ false → of_command.ghosts.eq a b ≡ false
    → Decides (of_command.ghosts.eq a b) (a ≡ b)
apart a b other says = (λ h. absurd (cc (h, says)), λ e. absurd (differs e)) where
  differs : a ≡ b → ⊥
  differs e =
      let same : eqb (number_of a) (number_of a) ≡ false =
      ap (λ (x : Command). eqb (number_of a) (number_of x)) e ∙ other in
      grind (arith, nat_tests)

-- `==` decides equality of commands, by one search for each kind, since all kinds are too many for one search
pub command_tells : Tells of_command.ghosts.eq
command_tells (command.OpenClone k) (command.OpenClone k') = search rules
command_tells (command.OpenMinor k l) (command.OpenMinor k' l') = search rules
command_tells (command.Dup k) (command.Dup k') = search rules
command_tells (command.Close k) (command.Close k') = search rules
command_tells command.CloseAll command.CloseAll = search rules
command_tells (command.Link k l) (command.Link k' l') = search rules
command_tells (command.Plink k l) (command.Plink k' l') = search rules
command_tells (command.Unlink k l) (command.Unlink k' l') = search rules
command_tells (command.Punlink k l) (command.Punlink k' l') = search rules
command_tells (command.Bind k l) (command.Bind k' l') = search rules
command_tells (command.Unbind k) (command.Unbind k') = search rules
command_tells (command.Route k l m) (command.Route k' l' m') = search rules
command_tells (command.Unroute k l) (command.Unroute k' l') = search rules
command_tells (command.Write k l m) (command.Write k' l' m') = search rules
command_tells (command.Read k) (command.Read k') = search rules
command_tells (command.Flush k l) (command.Flush k' l') = search rules
command_tells (command.Inject k l m n) (command.Inject k' l' m' n') = search rules
command_tells (command.Transmit k l) (command.Transmit k' l') = search rules
command_tells (command.Hangup k l) (command.Hangup k' l') = search rules
command_tells a b = apart a b refl refl

-- `==` decides equality of replies
pub reply_tells : Tells of_reply.ghosts.eq
reply_tells a b = search rules

-- `==` decides equality of entries
pub entry_tells : Tells of_entry.ghosts.eq
entry_tells a b = search (rules, command_tells, reply_tells)

-- `==` decides equality of lists of drivers
pub drivers_tell : Tells (pointwise of_driver.ghosts.eq)
drivers_tell = pointwise_decides (λ a b. search rules)

-- `==` decides equality of lists of programs
program_lists_tell : Tells (pointwise (pointwise of_command.ghosts.eq))
program_lists_tell = pointwise_decides (pointwise_decides command_tells)

-- `==` decides equality of lists of entries
pub entries_tell : Tells (pointwise of_entry.ghosts.eq)
entries_tell = pointwise_decides entry_tells

-- drivers and programs without a version, as one value
abbrev many_of : List DriverSpec → List (List Command) → Many
many_of drivers programs = record { drivers = drivers; programs = programs }

-- `==` decides equality of drivers and programs without a version
pub many_tells : Tells of_many.ghosts.eq
many_tells a b =
    let both = Decides-and _ _ (drivers_tell a.drivers b.drivers) (program_lists_tell a.programs b.programs) in (
      λ h. ap (λ ds. many_of ds a.programs) (both.0 h).0 ∙ ap (many_of b.drivers) (both.0 h).1,
      λ h. both.1 (ap (λ (m : Many). m.drivers) h, ap (λ (m : Many). m.programs) h),
    )

-- `==` decides equality of versions
version_tells : Tells of_version.ghosts.eq
version_tells a b = search rules

-- drivers and programs with a version, as one value
abbrev lists_of : Version → List DriverSpec → List (List Command) → ProgramLists
lists_of version drivers programs = record { version = version; drivers = drivers; programs = programs }

-- `==` decides equality of drivers and programs with a version
pub programs_tell : Tells of_programs.ghosts.eq
programs_tell a b =
    let both = Decides-and _ _ (drivers_tell a.drivers b.drivers) (program_lists_tell a.programs b.programs) in
    let all = Decides-and _ _ (version_tells a.version b.version) both in (
      λ h. let k = all.0 h in ap (λ v. lists_of v a.drivers a.programs) k.0
          ∙ (ap (λ ds. lists_of b.version ds a.programs) k.1.0 ∙ ap (lists_of b.version b.drivers) k.1.1),
      λ h. all.1 (
        ap (λ (p : ProgramLists). p.version) h,
        (ap (λ (p : ProgramLists). p.drivers) h, ap (λ (p : ProgramLists). p.programs) h),
      ),
    )

-- `==` decides equality of lists of open descriptors
descriptors_tell : Tells (pointwise of_descriptor_line.ghosts.eq)
descriptors_tell = pointwise_decides (λ a b. search rules)

-- `==` decides equality of lists of links
links_tell : Tells (pointwise of_link_line.ghosts.eq)
links_tell = pointwise_decides (λ a b. search rules)

-- `==` decides equality of lists of bindings
bindings_tell : Tells (pointwise of_binding_line.ghosts.eq)
bindings_tell = pointwise_decides (λ a b. search rules)

-- `==` decides equality of lists of routes
routes_tell : Tells (pointwise of_route_line.ghosts.eq)
routes_tell = pointwise_decides (λ a b. search rules)

-- `==` decides equality of lists of queued messages
messages_tell : Tells (pointwise of_message_line.ghosts.eq)
messages_tell = pointwise_decides (λ a b. search rules)

-- `==` decides equality of lists of full places
fulls_tell : Tells (pointwise of_full_line.ghosts.eq)
fulls_tell = pointwise_decides (λ a b. search rules)

-- `==` decides equality of lists of hung-up streams
hungs_tell : Tells (pointwise of_hung_line.ghosts.eq)
hungs_tell = pointwise_decides (λ a b. search rules)

-- `==` decides equality of views
pub view_tells : Tells of_view.ghosts.eq
view_tells a b =
    search (rules, descriptors_tell, links_tell, bindings_tell, routes_tell, messages_tell, fulls_tell, hungs_tell)
