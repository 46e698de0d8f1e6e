use Rattle.kd_tables.proofs.Rings.{letter_leads_to_place, place_leads_to_letter}
use Rattle.kd_tables.proofs.laws.letters_and_places_undo.Goals as goal

pub returns-clause-places : goal.returns-clause-places
returns-clause-places c = letter_leads_to_place

pub returns-clause-letters : goal.returns-clause-letters
returns-clause-letters c = place_leads_to_letter
