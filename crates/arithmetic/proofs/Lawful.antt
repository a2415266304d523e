-- The laws that a contract carries, each from its lemma. Assumes nothing.
use Rattle.arithmetic.specs.Laws.{Laws}
use Rattle.arithmetic.proofs.Floors.{floor_law, ceiling_law}
use Rattle.arithmetic.proofs.Values.{rounded_tightly, quotients_tightly, tightly_nested, tightly_unique}

pub laws : Laws
laws = record {
  floor_law = floor_law;
  ceiling_law = ceiling_law;
  rounding_law = λ S s t c nonzero e. rounded_tightly s t nonzero e;
  quotient_law = λ S T s t c d positive apart p q. quotients_tightly s t positive apart p q;
  growth_law = λ S T s c d i p q. tightly_nested i p q;
  uniqueness_law = λ S s c d p q. tightly_unique p q;
}
