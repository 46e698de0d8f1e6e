-- The places of a pin wheel's letters.
use Rattle.std.proofs.Common.{◌≡◌, ◌≢◌, ℕ, ◌<◌, ◌==◌, ltb, List, [], length, slice_index, Some, None, refl, arith}
use Rattle.kd_tables.{proofs.Wirings.IsDistinct-index, specs.Rings.IsRing, specs.Rings.place_on, specs.Rings.ring_of}
use Rattle.std.{proofs.lemmas.List.{Quantifiers.position-Some, Sums.position_or_len_is}, specs.List.position_or_len}
use Rattle.std.proofs.lemmas.Bool.{cond-true, lt-ltb, eqb-true, eq-eqb, ne_eqb}

pub letter_leads_to_place : (size : ℕ) (ring : List ℕ) → IsRing size ring → (place : ℕ) → place < size
    → place_on ring (slice_index ring place) ≡ Some place
letter_leads_to_place size ring h place lt =
    let first : position_or_len (λ other. other == slice_index ring place) ring ≡ place =
    position_or_len_is (λ other. other == slice_index ring place) ring place 0 (omega (arith, h.full))
    (λ k k_lt. ne_eqb (slice_index ring k) (slice_index ring place) (λ e. absurd (omega (
      arith,
      IsDistinct-index ring k place h.differ (omega (arith, h.full)) (omega (arith, h.full)) e,
    ))))
    (λ _. eq-eqb (slice_index ring place) (slice_index ring place) refl) in
    rw first (cond-true (ltb place (length ring)) (Some place) None
    (lt-ltb place (length ring) (omega (arith, h.full))))

pub place_leads_to_letter : (size : ℕ) (ring : List ℕ) → IsRing size ring → (place letter : ℕ)
    → place_on ring letter ≡ Some place → slice_index ring place ≡ letter
place_leads_to_letter size ring h place letter e = grind (arith, eqb-true, position-Some)

-- A wheel with another number than 1 to 6 has no letters.
pub no_ring : (wheel : ℕ) → wheel ≢ 1 → wheel ≢ 2 → wheel ≢ 3 → wheel ≢ 4 → wheel ≢ 5 → wheel ≢ 6 → ring_of wheel ≡ []
unfolding ring_of
no_ring wheel e d g h o q = grind arith
