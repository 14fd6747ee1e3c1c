-- The front of a history: the numbers of its entries and links, separately and as one word.
use Rattle.std.specs.Prelude.{◌≡◌, ℕ, ◌+◌, ◌*◌, Bool, true, false, List, length}
use Rattle.smx_types.specs.declared.command.Entry.{Entry}
use Rattle.smx_types.specs.declared.driver.DriverSpec.{DriverSpec}
use Rattle.smx_model.specs.Histories.{after}
use Rattle.smx_shared.specs.declared.front.Front.{Front}

-- the word of a history: 4096 for each entry, and 2 for each link
unfoldable pub front_of : List DriverSpec → List Entry → ℕ
front_of drivers history = 4096 * length history + 2 * length (after drivers history).links

-- the lowest bit of a word: whether a seat has the turn
abbrev pub turn_bit : Bool → ℕ
turn_bit true = 1
turn_bit false = 0

-- the word of a front
abbrev pub word_of : Front → ℕ
word_of front = 4096 * front.entries + 2 * front.links + turn_bit front.held

-- the numbers of a front are those of a history
pub record IsFrontOf (front : Front) (drivers : List DriverSpec) (history : List Entry) : Type 0 where
  pub entries : front.entries ≡ length history
  pub links : front.links ≡ length (after drivers history).links
