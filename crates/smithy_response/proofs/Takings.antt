-- Which bound member comes to hand.
use Rattle.smithy_response.proofs.Common.{◌≡◌, false, not, ◌&&◌, List, ◌∷◌, ℕ, Some, None, refl, sym, ap, subst, arith, if◌then◌else◌, Response, Schema, name_of, values_named, in_header, in_prefix, passed_over, handed_out, source_of, header_route, is_plain_text, are_empty, settled_at, IsTaken, IsTakenAt}
use Rattle.smithy_serde.specs.Held as held
use Rattle.smithy_response.specs.declared.parts.BoundMember.TheVariants as bound

pub source_prefix : (m : Schema) (prefix : List ℕ) → m.node.traits.http_header ≡ None → m.node.traits.http_prefix_headers ≡ Some prefix → source_of m ≡ in_prefix prefix
source_prefix m prefix none some = rw (none, some) refl

module _ (response : Response) (m : Schema) (name own : List ℕ) (first : List ℕ) (others : List (List ℕ)) where
  pub header_taken : (spelled : List ℕ) → spelled ≡ name → own ≡ name_of m → values_named name response.headers ≡ first ∷ others
      → (not (is_plain_text m) && are_empty (first ∷ others)) ≡ false → IsTakenAt response (in_header name) m (bound.Header own (record { name = spelled; list = None }))
  header_taken spelled same member values something =
      subst (λ n. IsTakenAt response (in_header name) m (bound.Header own (record { name = n; list = None }))) (sym same) (record {
        route =
            subst (λ vs. IsTaken response (header_route m name vs) (bound.Header own (record { name = name; list = None }))) (sym values)
            (subst (λ b. IsTaken response (if b then passed_over else handed_out (held.header name (first ∷ others))) (bound.Header own (record { name = name; list = None }))) (sym something)
            (ap (λ vs. Some (held.header name vs)) values));
        closed = refl;
        low = omega arith;
        settles = λ some policy e. ap (λ n. settled_at (in_header name) policy response n e) member;
      })
