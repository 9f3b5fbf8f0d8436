-- A list of texts that was written is read back.
use Rattle.std.proofs.Common.{◌≡◌, refl, ap, ◌∙◌, ℕ, false, List, [], ◌∷◌, map, Some, option_map, Ok}
use Rattle.smithy_http.specs.ListTexts.{list_texts}
use Rattle.smithy_http.proofs.SpellingLaws.{list_texts-spelled}
use Rattle.smithy_ids.specs.declared.shape_type.ShapeType.TheVariants as kind
use Rattle.smithy_schema.specs.Nodes.{Schema}
use Rattle.smithy_serde.specs.Held as held
use Rattle.smithy_serde.specs.HeldReads.{elements}
use Rattle.smithy_serde.specs.Values.{Label, text}
use Rattle.smithy_serde.specs.Writing.{each_with}
use Rattle.smithy_strings.specs.Lists.{listed}
use Rattle.smithy_strings.specs.StringReading.{ListsAreReadBack}
use Rattle.smithy_strings.specs.StringWriting.{codec_texts}
use Rattle.smithy_strings.proofs.ListLaws.{Spells-listed}

texts_of-each : (l : Label) (texts : List (List ℕ)) → codec_texts (each_with l text texts) ≡ Some texts
texts_of-each l [] = refl
texts_of-each l (t ∷ texts) = ap (option_map (λ ts. t ∷ ts)) (texts_of-each l texts)

elements_of : (node : Schema) (t : List ℕ) (texts : List (List ℕ)) → list_texts t ≡ Ok texts → elements node (held.input t false) ≡ Ok (map (λ t. held.item (Some t)) texts)
unfolding elements
elements_of node t texts spells = rw spells refl

pub lists_are_read_back : ListsAreReadBack
lists_are_read_back l node texts utf8 =
    ap (λ o. option_map (λ t. elements node (held.input t false)) (option_map (listed kind.String) o)) (texts_of-each l texts)
    ∙ ap (λ r. Some r) (elements_of node (listed kind.String texts) texts (list_texts-spelled texts (listed kind.String texts) (Spells-listed kind.String texts (λ e. cc) utf8)))
