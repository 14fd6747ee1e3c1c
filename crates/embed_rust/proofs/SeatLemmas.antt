-- The seats of a shared system.
use Rattle.std.proofs.Common.{◌≡◌, refl, ℕ, List, All, map}
use Rattle.std.proofs.lemmas.List.Elements.{All-map}
use Rattle.smx_shared.specs.Recorded.{Recorded}
use Rattle.smx_shared.specs.Seats.{SharedId, first_seat}

-- all seats belong to that system, whatever their number
pub are_of : (name : SharedId) (s : Recorded) (ps : List ℕ) → All (λ x. x.shared ≡ name) (map (first_seat name s) ps)
are_of name s ps = All-map (λ x. x.shared ≡ name) (first_seat name s) ps (λ k d within. refl)
