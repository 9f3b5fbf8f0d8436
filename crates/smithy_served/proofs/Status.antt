-- The status of a response is read as the response code that was written.
use Rattle.smithy_served.proofs.Common.{code_kinds, has_code_kind, as_output, code_write, is_label, no_status, status_fault, status_value, written_code, handed_out, in_status, source_of, read_scalar, value_by_kind, value_within, value_read, first_value, IsReadAs, has_code, Binding, Bool, Held, List, None, Ok, Option, Protocol, Resolved, Schema, Some, Value, Write, all_resolved, and_parts, ap, binding_of, cond, eq-eqb, eqb-true, false, first, has_at_most_one, is_of, is_placed_at, is_some, leb-true, list_all, member-passes, member_at, members_of, members_with, nat_le, negsuc, not, one_kind, option_and_then, option_map, pos, refl, same_kind, slice_get, subst, sym, to_label, true, unless, unwrap_or, ℕ, ◌&&◌, ◌==◌, ◌||◌, ◌∙◌, ◌≡◌, resolved_at, all_apply, any_get, members_by_position, find_same, single, both_ways, trait_of}
use Rattle.smithy_ids.specs.declared.shape_type.ShapeType.TheVariants as kind
use Rattle.smithy_serde.specs.Held as held
use Rattle.smithy_serde.specs.Values as value
use Rattle.smithy_served.proofs.MemberHanded.{HandsSame, read_as}
use Rattle.smithy_served.proofs.Alike.{some-map, first_value-out}
use Rattle.smithy_served.proofs.Messages.{StandsIn, stands_in, count_out}
use Rattle.smithy_served.proofs.Conforming.{IsMember, at_out, message, unfaulted}

label_is : (b : Binding) → is_label b ≡ true → b ≡ to_label
label_is to_label e = refl
label_is _ e = absurd (cc e)

-- a value that is a status
code_form : (v : Value) (n : ℕ) → status_value v ≡ Some n → value.scalar (value.whole value.integer (pos n)) ≡ v
code_form (value.scalar (value.whole value.integer (pos k))) n e = go (nat_le 100 k && nat_le k 999) e
  where
    go : (b : Bool) → cond b (Some k) None ≡ Some n → value.scalar (value.whole value.integer (pos n)) ≡ value.scalar (value.whole value.integer (pos k))
    go true h = let same : k ≡ n = cc h in ap (λ x. value.scalar (value.whole value.integer (pos x))) (sym same)
    go false h = absurd (cc h)
code_form (value.scalar (value.whole value.integer (negsuc k))) n e = absurd (cc e)
code_form (value.scalar (value.whole value.byte z)) n e = absurd (cc e)
code_form (value.scalar (value.whole value.short z)) n e = absurd (cc e)
code_form (value.scalar (value.whole value.long z)) n e = absurd (cc e)
code_form _ n e = absurd (cc e)

status_read : (m : Schema) (n : ℕ) → m.node.kind ≡ kind.Integer → value_read m (held.status n) ≡ Ok (value.scalar (value.whole value.integer (pos n)))
unfolding value_read read_scalar
status_read m n is = ap (λ k. value_by_kind (value_within 0) k m (held.status n)) is

module _ (protocol : Protocol) (schema : Schema) (ws : List Write) (i : ℕ) (m : Schema) (is : IsMember protocol schema ws i m) (status_is : source_of m ≡ in_status) where
  stands : StandsIn m in_status
  stands = stands_in m in_status status_is

  tests : (has_at_most_one (λ t. t.http_response_code) schema ≡ true) × (list_all (λ m. same_kind m.node.kind kind.Integer) (members_with (λ t. t.http_response_code) schema) ≡ true)
  tests = and_parts (has_at_most_one (λ t. t.http_response_code) schema) (list_all (λ m. same_kind m.node.kind kind.Integer) (members_with (λ t. t.http_response_code) schema)) is.checked.response_code

  integer : m.node.kind ≡ kind.Integer
  integer = one_kind m.node.kind kind.Integer (ap (λ b. not b || same_kind m.node.kind kind.Integer) (sym stands.says) ∙ member-passes has_code_kind schema i m (sym (code_kinds schema) ∙ tests.1) is.at)

  -- the response code is the member's first write
  code_is_first : code_write (as_output schema) ws ≡ first (as_output schema) ws i
  code_is_first =
      find_same (λ r. is_label (binding_of r.member)) (is_of i) (all_resolved out ws)
      (all_apply (λ r. member_at out r.position ≡ Some r.member) (λ r. is_label (binding_of r.member) ≡ is_of i r) (all_resolved out ws) same_test (resolved_at out ws))
    where
      out : Schema
      out = as_output schema

      at : (j : ℕ) (n : Schema) → member_at (as_output schema) j ≡ Some n → slice_get (members_of (as_output schema)) j ≡ Some n
      at j n e = (message protocol schema ws i m is).by_position j ∙ e

      same_test : (r : Resolved) → member_at out r.position ≡ Some r.member → is_label (binding_of r.member) ≡ is_of i r
      same_test r at_r =
          both_ways (is_label (binding_of r.member)) (r.position == i)
          (λ labelled.
          eq-eqb r.position i (single (λ m. m.node.traits.http_label) (members_of out) (leb-true _ 1 (count_out (λ t. t.http_label) schema ∙ tests.0)) r.position i r.member (as_output m)
          (at r.position r.member at_r) (at i (as_output m) (at_out protocol schema ws i m is)) (trait_of r.member to_label (label_is (binding_of r.member) labelled)) stands.says))
          (λ e.
          let members : Some r.member ≡ Some (as_output m) = sym at_r ∙ ap (member_at out) (eqb-true r.position i e) ∙ at_out protocol schema ws i m is in
          let same : r.member ≡ as_output m = cc members in
          ap (λ n. is_label (binding_of n)) same ∙ ap is_label stands.binding)

  -- and it is there
  there : is_some (first_value schema ws i) ≡ true
  there =
      let has : has_code schema ≡ true = any_get (λ m. m.node.traits.http_response_code) (members_of schema) i m (members_by_position schema is.checked.cited i ∙ is.at) stands.says in
      ap is_some (sym (first_value-out schema ws i)) ∙ some-map (λ r. r.value) (first (as_output schema) ws i) ∙ ap is_some (sym code_is_first)
      ∙ ap (λ b. not b || is_some (code_write (as_output schema) ws)) (sym has) ∙ is.typed.code

  code_is : written_code (as_output schema) ws ≡ option_and_then status_value (first_value schema ws i)
  unfolding written_code
  code_is = ap (λ o. option_and_then status_value (option_map (λ (r : Resolved). r.value) o)) code_is_first ∙ ap (option_and_then status_value) (first_value-out schema ws i)

  pub status_handed : (h : Held) (code status : ℕ) → status ≡ unwrap_or (written_code (as_output schema) ws) code → HandsSame h (handed_out (held.status status)) m (first_value schema ws i)
  status_handed h code status same = subst (λ n. IsReadAs m (held.status n) (first_value schema ws i)) (sym (same ∙ ap (λ o. unwrap_or o code) code_is)) (go (first_value schema ws i) refl there)
    where
      by : (u : Value) (o : Option ℕ) → status_value u ≡ o → status_fault to_label u ≡ None → IsReadAs m (held.status (unwrap_or o code)) (Some u)
      by u None q fault = absurd (let z : Some no_status ≡ None = ap (λ o. unless (is_some o) no_status) (sym q) ∙ fault in cc z)
      by u (Some n) q fault = read_as m (held.status n) u (status_read m n integer ∙ ap Ok (code_form u n q))

      go : (o : Option Value) → first_value schema ws i ≡ o → is_some o ≡ true → IsReadAs m (held.status (unwrap_or (option_and_then status_value o) code)) o
      go None e some = absurd (cc some)
      go (Some u) e some = by u (status_value u) refl (ap (λ b. status_fault b u) (sym stands.binding) ∙ (unfaulted protocol schema ws i m is u e (ap is_placed_at stands.binding)).1)
