-- The derived orders of places and standings are the orders of places from left to right.
use Rattle.kd_tables.specs.contracts.place.PlaceOrd.TheImpl as places
use Rattle.kd_tables.specs.contracts.standing.StandingOrd.TheImpl as standings
use Rattle.kd_tables.specs.{Places.{place_rank}, declared.place.Place.{Place}}
use Rattle.std.proofs.Common.{Equal, arith, nat_cmp, ◌≡◌}
use Rattle.std.specs.{Ordering.{ordering_then}, declared.cmp.Ordering.{Ordering}}

pub place_order : (one other : Place) → places.ghosts.cmp one other ≡ nat_cmp (place_rank one) (place_rank other)
place_order one other = grind arith

pub then_equal : (first : Ordering) → ordering_then first Equal ≡ first
then_equal first = grind arith

pub standing_order : (one other : Place × Place) → standings.ghosts.cmp one other
    ≡ ordering_then (nat_cmp (place_rank one.0) (place_rank other.0)) (nat_cmp (place_rank one.1) (place_rank other.1))
standing_order one other = grind (arith, then_equal, place_order one.0 other.0, place_order one.1 other.1)
