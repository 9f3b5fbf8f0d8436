-- Traits with a field of their own have full names.
use Rattle.std.proofs.Common.{◌≡◌, refl, ℕ, List, true}
use Rattle.std.specs.List.{list_all}
use Rattle.smithy_model.specs.Names.{is_full_name}
use Rattle.smithy_model.specs.Traits.{fields, is_named_trait}
use Rattle.smithy_model.proofs.NameLemmas.{named_so}

fields_full : list_all (λ field. is_full_name field.0) fields ≡ true
fields_full = refl

pub named_full : (id : List ℕ) → is_named_trait id ≡ true → is_full_name id ≡ true
unfolding is_named_trait
named_full id named = named_so is_full_name fields id fields_full named
