use Rattle.std.proofs.Common.{ap, ◌∙◌}
use Rattle.kd_drum.proofs.converter.Converter.new.Goals as goal

pub invariant_of-converter : goal.invariant_of-converter
invariant_of-converter c = (
  record {
    first = record {
      ring = ap (λ w. w.ring) c.new.ensures.value ∙ c.ring1.ensures;
      offset = ap (λ w. w.offset) c.new.ensures.value;
      turned = c.new.ensures.wheel;
    };
    second = record {
      ring = ap (λ w. w.ring) c.new-2.ensures.value ∙ c.ring2.ensures;
      offset = ap (λ w. w.offset) c.new-2.ensures.value;
      turned = c.new-2.ensures.wheel;
    };
    third = record {
      ring = ap (λ w. w.ring) c.new-3.ensures.value ∙ c.ring3.ensures;
      offset = ap (λ w. w.offset) c.new-3.ensures.value;
      turned = c.new-3.ensures.wheel;
    };
    fourth = record {
      ring = ap (λ w. w.ring) c.new-4.ensures.value ∙ c.ring4.ensures;
      offset = ap (λ w. w.offset) c.new-4.ensures.value;
      turned = c.new-4.ensures.wheel;
    };
    fifth = record {
      ring = ap (λ w. w.ring) c.new-5.ensures.value ∙ c.ring5.ensures;
      offset = ap (λ w. w.offset) c.new-5.ensures.value;
      turned = c.new-5.ensures.wheel;
    };
    sixth = record {
      ring = ap (λ w. w.ring) c.new-6.ensures.value ∙ c.ring6.ensures;
      offset = ap (λ w. w.offset) c.new-6.ensures.value;
      turned = c.new-6.ensures.wheel;
    };
  },
  c.count_bars_met.ensures,
)
