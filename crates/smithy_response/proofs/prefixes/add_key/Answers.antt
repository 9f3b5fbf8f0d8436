use Rattle.smithy_response.proofs.Common.{◌≡◌, ap, sym, ◌∙◌, ℕ, true, false, List, Option, Some, is_some}
use Rattle.std.specs.BTreeMap.{BTreeMap, get_by}
use Rattle.std.specs.Borrow.{Bor}
use Rattle.std.specs.Cmp.Lexicographic.{slice_cmp}
use Rattle.std.specs.Ordering.{nat_cmp}
use Rattle.std.proofs.lemmas.Map.Text.{btree_map_updates_str}
use Rattle.smithy_types.specs.Texts.{is_one_of}
use Rattle.smithy_binding.proofs.DistinctNames.{is_some-copied}
use Rattle.smithy_response.proofs.KnownKeys.{known-more, key-known, key-new}
use Rattle.smithy_response.proofs.prefixes.add_key.Goals as goal

abbrev place_in : BTreeMap (Bor (List ℕ)) ℕ → List ℕ → Option ℕ
place_in m text = get_by (λ k. slice_cmp nat_cmp text k.now) m

pub returns-then-is_some-clause-keys : goal.returns-then-is_some-clause-keys
returns-then-is_some-clause-keys c =
    let told : is_one_of c.args.key.now c.args.keys.now ≡ true =
    sym (c.requires c.args.key.now) ∙ sym (ap is_some c.get.ensures.value) ∙ is_some-copied c.get.result ∙ sym c.is_some.ensures ∙ c.if-is_some.true in
    key-known c.args.keys.now c.args.key.now told

pub returns-clause-known : goal.returns-clause-known
returns-clause-known c = λ q.
    rw c.in_ok-push.ensures.ok (known-more c.args.keys.now c.args.key.now c.len.result (place_in c.args.known.now) (place_in c.insert.new.self) c.requires
    (btree_map_updates_str c.args.key.now c.args.known.now c.insert.new.self (Some c.len.result) c.in_ok-insert.ensures.updates) q)

pub returns-clause-keys : goal.returns-clause-keys
returns-clause-keys c =
    let new : is_one_of c.args.key.now c.args.keys.now ≡ false =
    sym (c.requires c.args.key.now) ∙ sym (ap is_some c.get.ensures.value) ∙ is_some-copied c.get.result ∙ sym c.is_some.ensures ∙ c.if-is_some.false in
    c.in_ok-push.ensures.ok ∙ key-new c.args.keys.now c.args.key.now new
