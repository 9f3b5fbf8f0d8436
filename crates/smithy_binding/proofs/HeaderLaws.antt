-- A placed request has each header name once.
use Rattle.smithy_binding.proofs.Common.{◌≡◌, ◌≢◌, refl, ap, subst, sym, ◌∙◌, ℕ, Bool, true, false, not, ◌&&◌, List, [], ◌∷◌, ◌++◌, map, flat_map, length, codes, decimal, Result, Ok, Err, Option, Some, None, option_map, is_none, find, if◌then◌else◌, AllByRecursion, option_map_or, result_ok, then_give, same_text, found, AreDistinct, without, put, put_all, Request, Schema, Write, firsts, inserted, headers, Body, body, Protocol, OmitFlags, adds_content_type, adds_content_length, with_default, all_headers, request_at, answer, place, Fault, legal_target}
use Rattle.smithy_binding.specs.Laws.{header_names}
use Rattle.smithy_binding.proofs.Tests.{same_text_self}

abbrev names : List (List ℕ × List ℕ) → List (List ℕ)
names pairs = map (λ p. p.0) pairs

differ : (a b : List ℕ) → same_text a b ≡ false → a ≢ b
differ a b e h = let q : true ≡ false = sym (same_text_self a) ∙ ap (same_text a) h ∙ e in absurd (cc q)

-- what all names have, those of other pairs have
All-without : (P : List ℕ → Type 0) (name : List ℕ) (pairs : List (List ℕ × List ℕ)) → AllByRecursion P (names pairs) → AllByRecursion P (names (without name pairs))
All-without P name [] h = tt
All-without P name (p ∷ ps) h = go (same_text p.0 name) (All-without P name ps h.1)
  where
    go : (same : Bool) → AllByRecursion P (names (without name ps)) → AllByRecursion P (names (if not same then p ∷ without name ps else without name ps))
    go true rest = rest
    go false rest = (h.0, rest)

AreDistinct-without : (name : List ℕ) (pairs : List (List ℕ × List ℕ)) → AreDistinct (names pairs) → AreDistinct (names (without name pairs))
AreDistinct-without name [] h = tt
AreDistinct-without name (p ∷ ps) h = go (same_text p.0 name) (AreDistinct-without name ps h.1)
  where
    go : (same : Bool) → AreDistinct (names (without name ps)) → AreDistinct (names (if not same then p ∷ without name ps else without name ps))
    go true rest = rest
    go false rest = (All-without (λ other. p.0 ≢ other) name ps h.0, rest)

All-put : (P : List ℕ → Type 0) (pairs : List (List ℕ × List ℕ)) (p : List ℕ × List ℕ) → AllByRecursion P (names pairs) → P p.0 → AllByRecursion P (names (put pairs p))
All-put P [] p h here = (here, tt)
All-put P (q ∷ qs) p h here = go (same_text q.0 p.0) (All-put P qs p h.1 here)
  where
    go : (same : Bool) → AllByRecursion P (names (put qs p)) → AllByRecursion P (names (if same then (q.0, p.1) ∷ without p.0 qs else q ∷ put qs p))
    go true rest = (h.0, All-without P p.0 qs h.1)
    go false rest = (h.0, rest)

AreDistinct-put : (pairs : List (List ℕ × List ℕ)) (p : List ℕ × List ℕ) → AreDistinct (names pairs) → AreDistinct (names (put pairs p))
AreDistinct-put [] p h = (tt, tt)
AreDistinct-put (q ∷ qs) p h = go (same_text q.0 p.0) refl (AreDistinct-put qs p h.1)
  where
    go : (same : Bool) → same_text q.0 p.0 ≡ same → AreDistinct (names (put qs p)) → AreDistinct (names (if same then (q.0, p.1) ∷ without p.0 qs else q ∷ put qs p))
    go true e rest = (All-without (λ other. q.0 ≢ other) p.0 qs h.0, AreDistinct-without p.0 qs h.1)
    go false e rest = (All-put (λ other. q.0 ≢ other) qs p h.0 (differ q.0 p.0 e), rest)

AreDistinct-put_all : (done pairs : List (List ℕ × List ℕ)) → AreDistinct (names done) → AreDistinct (names (put_all done pairs))
AreDistinct-put_all done [] h = h
AreDistinct-put_all done (p ∷ ps) h = AreDistinct-put_all (put done p) ps (AreDistinct-put done p h)

-- a pair of a new name goes last
put-new : (pairs : List (List ℕ × List ℕ)) (name value : List ℕ) → found name pairs ≡ None → put pairs (name, value) ≡ pairs ++ (name, value) ∷ []
put-new [] name value e = refl
put-new (q ∷ qs) name value e = go (same_text q.0 name) e (put-new qs name value)
  where
    go : (same : Bool) → option_map (λ p. p.1) (if same then Some q else find (λ p. same_text p.0 name) qs) ≡ None → (found name qs ≡ None → put qs (name, value) ≡ qs ++ (name, value) ∷ []) → (if same then (q.0, value) ∷ without name qs else q ∷ put qs (name, value)) ≡ q ∷ qs ++ (name, value) ∷ []
    go true absent rest = absurd (cc absent)
    go false absent rest = ap (λ ps. q ∷ ps) (rest absent)

AreDistinct-with_default : (wanted : Bool) (name value : List ℕ) (pairs : List (List ℕ × List ℕ)) → AreDistinct (names pairs) → AreDistinct (names (with_default wanted name value pairs))
AreDistinct-with_default wanted name value pairs h = go wanted (found name pairs) refl
  where
    go : (w : Bool) (o : Option (List ℕ)) → found name pairs ≡ o → AreDistinct (names (if w && is_none o then pairs ++ (name, value) ∷ [] else pairs))
    go false o e = h
    go true (Some x) e = h
    go true None e =
        let P : List (List ℕ × List ℕ) → Type 0 = λ ps. AreDistinct (names ps) in
        subst P (put-new pairs name value e) (AreDistinct-put pairs (name, value) h)

AreDistinct-all_headers : (protocol : Protocol) (b : Body) (omit : OmitFlags) (pairs : List (List ℕ × List ℕ)) → AreDistinct (names pairs) → AreDistinct (names (all_headers protocol b omit pairs))
AreDistinct-all_headers protocol b omit pairs h =
    let typed = with_default (adds_content_type b omit) (codes "content-type") protocol.content_type pairs in
    AreDistinct-with_default (adds_content_length b omit) (codes "content-length") (decimal (length b.bytes)) typed
    (AreDistinct-with_default (adds_content_type b omit) (codes "content-type") protocol.content_type pairs h)

AreDistinct-headers : (schema : Schema) (ws : List Write) → AreDistinct (names (headers schema ws))
unfolding headers
AreDistinct-headers schema ws = AreDistinct-put_all [] (flat_map inserted (firsts schema ws)) tt

of_target : (f : List ℕ → Request) (target : Result (List ℕ) Fault) (request : Request) → ((t : List ℕ) → AreDistinct (header_names (f t))) → result_ok (then_give target f) ≡ Some request → AreDistinct (header_names request)
of_target f (Ok t) request h e =
    let P : Option Request → Type 0 = λ o. AreDistinct (option_map_or header_names o []) in subst P e (h t)
of_target f (Err fault) request h e = absurd (cc e)

pub headers_stand_once : (protocol : Protocol) (schema : Schema) (ws : List Write) (endpoint : List ℕ) (omit : OmitFlags) (request : Request) → place protocol schema ws endpoint omit ≡ Some request → AreDistinct (header_names request)
unfolding answer
headers_stand_once protocol schema ws endpoint omit request e =
    of_target (request_at protocol schema ws omit) (legal_target schema ws endpoint) request
    (λ t. AreDistinct-all_headers protocol (body protocol.text_of schema ws) omit (headers schema ws) (AreDistinct-headers schema ws))
    e
