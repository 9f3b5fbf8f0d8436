-- Tests in a row, as the definitions of the checks group them.
use Rattle.smithy_binding.proofs.Common.{◌≡◌, refl, Bool, true, false, ◌&&◌}

-- three tests
pub in_three : (a b c : Bool) → (a && (b && (c && true))) ≡ ((a && b) && c)
in_three false b c = refl
in_three true false c = refl
in_three true true false = refl
in_three true true true = refl

-- four
pub in_four : (a b c d : Bool) → (a && (b && (c && (d && true)))) ≡ (((a && b) && c) && d)
in_four false b c d = refl
in_four true false c d = refl
in_four true true false d = refl
in_four true true true false = refl
in_four true true true true = refl

-- seven
pub in_seven : (a b c d e f g : Bool) → (a && (b && (c && (d && (e && (f && (g && true))))))) ≡ ((((((a && b) && c) && d) && e) && f) && g)
in_seven false b c d e f g = refl
in_seven true false c d e f g = refl
in_seven true true false d e f g = refl
in_seven true true true false e f g = refl
in_seven true true true true false f g = refl
in_seven true true true true true false g = refl
in_seven true true true true true true false = refl
in_seven true true true true true true true = refl

-- of a member of an input
pub of_member : (c o w l q h p x y : Bool) → (c && (o && (w && (l && (q && (h && (p && (x && (y && true))))))))) ≡ (((((c && o) && w) && ((l && q) && h)) && p) && (x && y))
of_member false o w l q h p x y = refl
of_member true false w l q h p x y = refl
of_member true true false l q h p x y = refl
of_member true true true false q h p x y = refl
of_member true true true true false h p x y = refl
of_member true true true true true false p x y = refl
of_member true true true true true true false x y = refl
of_member true true true true true true true false y = refl
of_member true true true true true true true true false = refl
of_member true true true true true true true true true = refl

-- of the members of an input together
pub of_members : (a b c d e f : Bool) → (a && (b && (c && (d && (e && (f && true)))))) ≡ ((((a && b) && c) && d) && (e && f))
of_members false b c d e f = refl
of_members true false c d e f = refl
of_members true true false d e f = refl
of_members true true true false e f = refl
of_members true true true true false f = refl
of_members true true true true true false = refl
of_members true true true true true true = refl

-- of a template
pub of_template : (u l s a h g : Bool) → (u && (((l && (s && (a && true))) && ((h && (g && true)) && true)) && true)) ≡ (((((u && l) && s) && a) && h) && g)
of_template false l s a h g = refl
of_template true false s a h g = refl
of_template true true false a h g = refl
of_template true true true false h g = refl
of_template true true true true false g = refl
of_template true true true true true false = refl
of_template true true true true true true = refl

-- of an input
pub of_input : (n m p o r f h q t : Bool) → (n && (m && ((((p && o) && r) && f) && (h && (q && (t && true)))))) ≡ (n && ((((((m && p) && o) && r) && f) && (h && q)) && t))
of_input false m p o r f h q t = refl
of_input true false p o r f h q t = refl
of_input true true false o r f h q t = refl
of_input true true true false r f h q t = refl
of_input true true true true false f h q t = refl
of_input true true true true true false h q t = refl
of_input true true true true true true false q t = refl
of_input true true true true true true true false t = refl
of_input true true true true true true true true false = refl
of_input true true true true true true true true true = refl

-- of an output
pub of_output : (n m p o r h : Bool) → (n && (m && (((p && o) && r) && (h && true)))) ≡ (n && ((((m && p) && o) && r) && h))
of_output false m p o r h = refl
of_output true false p o r h = refl
of_output true true false o r h = refl
of_output true true true false r h = refl
of_output true true true true false h = refl
of_output true true true true true false = refl
of_output true true true true true true = refl
