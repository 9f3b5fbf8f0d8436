-- A filled path tells the text of each label member.
use Rattle.smithy_unambiguity.proofs.Common.{◌≡◌, refl, sym, ◌∙◌, ap, subst, ℕ, Bool, true, false, not, cond, ◌==◌, ◌&&◌, List, [], ◌∷◌, ◌++◌, length, map, filter, filter_map, Option, Some, None, Result, Ok, Err, is_some, unwrap_or, AllByRecursion, list_all, cons_option, and_parts, not-true, append_cancel_left, found, same_text, has_byte, then_give, Schema, name_of, Piece, Template, pieces, holes_of, fill, fill_rest, is_clear, label_members, holes_named, ends_segment, begins_segment, are_whole_segments, is_greedy_last, before_query, texts}
use Rattle.std.specs.Cmp.Lexicographic.{same_text as same_from_test}
use Rattle.smithy_unambiguity.proofs.Cuts.{before, before_first-before}
use Rattle.smithy_unambiguity.proofs.Paths.{holes_told, before-behind, HasNo-from_has_byte, HaveBytes}

-- what holds of each hole's name holds of a name that has a hole
hole_found : (Q : List ℕ → Type 0) (n : List ℕ) (ps : List Piece) → AllByRecursion (λ p. Q p.hole.name) ps → (length (filter (λ h. same_text h.name n) (map (λ p. p.hole) ps)) == 1) ≡ true → Q n
hole_found Q n [] all e = absurd (cc e)
hole_found Q n (p ∷ ps) all e = go (same_text p.hole.name n) refl e (hole_found Q n ps all.1)
  where
    go : (t : Bool) → same_text p.hole.name n ≡ t → (length (cond t (p.hole ∷ filter (λ h. same_text h.name n) (map (λ x. x.hole) ps)) (filter (λ h. same_text h.name n) (map (λ x. x.hole) ps))) == 1) ≡ true
        → ((length (filter (λ h. same_text h.name n) (map (λ x. x.hole) ps)) == 1) ≡ true → Q n) → Q n
    go true is h rest = subst Q (same_from_test p.hole.name n (sym is)) all.0
    go false is h rest = rest h

pub all_named : (Q : List ℕ → Type 0) (ps : List Piece) (ms : List Schema) → AllByRecursion (λ p. Q p.hole.name) ps → AllByRecursion (λ m. is_some m.node.member_name ≡ true) ms
    → list_all (λ name. length (filter (λ h. same_text h.name name) (map (λ p. p.hole) ps)) == 1) (filter_map (λ m. m.node.member_name) ms) ≡ true → AllByRecursion (λ m. Q (name_of m)) ms
all_named Q ps [] all named e = tt
all_named Q ps (m ∷ ms) all named e = go m.node.member_name refl named.0 e (all_named Q ps ms all named.1)
  where
    go : (o : Option (List ℕ)) → m.node.member_name ≡ o → is_some o ≡ true
        → list_all (λ name. length (filter (λ h. same_text h.name name) (map (λ p. p.hole) ps)) == 1) (cons_option o (filter_map (λ x. x.node.member_name) ms)) ≡ true
        → (list_all (λ name. length (filter (λ h. same_text h.name name) (map (λ p. p.hole) ps)) == 1) (filter_map (λ x. x.node.member_name) ms) ≡ true → AllByRecursion (λ x. Q (name_of x)) ms)
        → AllByRecursion (λ x. Q (name_of x)) (m ∷ ms)
    go None is some h rest = absurd (cc some)
    go (Some n) is some h rest =
        let parts = and_parts (length (filter (λ h. same_text h.name n) (map (λ p. p.hole) ps)) == 1) _ h in
        (subst Q (ap (λ o. unwrap_or o []) (sym is)) (hole_found Q n ps all parts.0), rest parts.1)

pub record IsFilledPath (t : Template) (texts : List (List ℕ × List ℕ)) (path : List ℕ) : Type 0 where
  pub rest : List ℕ
  pub fills : fill_rest (λ name. found name texts) t.rest ≡ Ok rest
  pub is : path ≡ t.first ++ rest

pub filled_path : (t : Template) (texts : List (List ℕ × List ℕ)) (path : List ℕ) → fill t texts ≡ Ok path → IsFilledPath t texts path
filled_path t texts path e = go (fill_rest (λ name. found name texts) t.rest) refl e
  where
    go : (r : Result (List ℕ) (List ℕ)) → fill_rest (λ name. found name texts) t.rest ≡ r → then_give r (λ rest. t.first ++ rest) ≡ Ok path → IsFilledPath t texts path
    go (Ok rest) is h = let same : t.first ++ rest ≡ path = cc h in record { rest = rest; fills = is; is = sym same }
    go (Err x) is h = absurd (cc h)

-- of a template with a hole, the paths up to the `?` behind the first literal
behind_first : (first : List ℕ) (p : Piece) (ps : List Piece) (path other : List ℕ) → are_whole_segments first (p ∷ ps) ≡ true → before 63 (first ++ path) ≡ before 63 (first ++ other) → before 63 path ≡ before 63 other
behind_first first p ps path other segments e =
    let a = and_parts (ends_segment first && begins_segment p.literal) (are_whole_segments p.literal ps) segments in
    let b = and_parts (ends_segment first) (begins_segment p.literal) a.0 in
    let c = and_parts _ (not (has_byte 63 first)) b.0 in
    let none = HasNo-from_has_byte 63 first (not-true (has_byte 63 first) c.1) in
    append_cancel_left first (before 63 path) (before 63 other) (sym (before-behind first path none) ∙ e ∙ before-behind first other none)

template_told : (t : Template) (texts others : List (List ℕ × List ℕ)) (path other : List ℕ) → HaveBytes texts → HaveBytes others → are_whole_segments t.first t.rest ≡ true → is_greedy_last (map (λ p. p.hole) t.rest) ≡ true
    → fill t texts ≡ Ok path → fill t others ≡ Ok other → before 63 path ≡ before 63 other → AllByRecursion (λ p. found p.hole.name texts ≡ found p.hole.name others) t.rest
template_told t texts others path other bytes_t bytes_o segments greedy fills fills' e =
    let f = filled_path t texts path fills in
    let g = filled_path t others other fills' in
    go t.rest segments greedy f.fills g.fills (sym (ap (before 63) f.is) ∙ e ∙ ap (before 63) g.is)
  where
    go : (ps : List Piece) {rest tail : List ℕ} → are_whole_segments t.first ps ≡ true → is_greedy_last (map (λ p. p.hole) ps) ≡ true → fill_rest (λ name. found name texts) ps ≡ Ok rest → fill_rest (λ name. found name others) ps ≡ Ok tail
        → before 63 (t.first ++ rest) ≡ before 63 (t.first ++ tail) → AllByRecursion (λ p. found p.hole.name texts ≡ found p.hole.name others) ps
    go [] s g f1 f2 h = tt
    go (p ∷ ps) {rest} {tail} s g f1 f2 h = holes_told t.first (p ∷ ps) texts others rest tail bytes_t bytes_o s g f1 f2 (behind_first t.first p ps rest tail s h)

-- so it gives the text of each label member
pub path_tells_labels : (schema : Schema) (template : List ℕ) (texts others : List (List ℕ × List ℕ)) (path other : List ℕ) → HaveBytes texts → HaveBytes others
    → AllByRecursion (λ m. is_some m.node.member_name ≡ true) (label_members schema) → is_clear template schema ≡ true → fill (pieces template) texts ≡ Ok path → fill (pieces template) others ≡ Ok other → before_query path ≡ before_query other
    → AllByRecursion (λ m. found (name_of m) texts ≡ found (name_of m) others) (label_members schema)
unfolding is_clear
path_tells_labels schema template texts others path other bytes_t bytes_o named clear fills fills' e =
    let t = pieces template in
    let a = and_parts _ (is_greedy_last (holes_of t)) clear in
    let b = and_parts _ (list_all (λ name. length (holes_named name t) == 1) (filter_map (λ m. m.node.member_name) (label_members schema)) && (length (holes_of t) == length (label_members schema))) a.0 in
    let c = and_parts (list_all (λ name. length (holes_named name t) == 1) (filter_map (λ m. m.node.member_name) (label_members schema))) _ b.1 in
    let d = and_parts _ (are_whole_segments t.first t.rest) (and_parts _ _ b.0).0 in
    all_named (λ n. found n texts ≡ found n others) t.rest (label_members schema)
    (template_told t texts others path other bytes_t bytes_o d.1 a.1 fills fills' (sym (before_first-before 63 path) ∙ e ∙ before_first-before 63 other))
    named c.0

-- Labels that are found alike fill a template alike.

pub fill_same : (a b : List (List ℕ × List ℕ)) (t : Template) → ((name : List ℕ) → found name a ≡ found name b) → fill t a ≡ fill t b
fill_same a b t same = λ i. then_give (fill_rest (λ name. same name i) t.rest) λ rest. t.first ++ rest
