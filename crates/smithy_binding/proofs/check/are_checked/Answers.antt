use Rattle.smithy_binding.proofs.Common.{◌≡◌, ap, sym, ◌∙◌, true, false, IfOk-weaker, members_of, schema_of, has_sound_names, has_sound_http, are_sound, have_sound_names}
use Rattle.smithy_binding.proofs.JointTests.{first_fails, second_fails, third_decides}
use Rattle.smithy_binding.proofs.check.are_checked.Goals as goal

pub returns-then-not-are_sound : goal.returns-then-not-are_sound
returns-then-not-are_sound c =
    let schema = schema_of c.args.schema in
    let sound : are_sound schema (members_of schema) ≡ false = ap (are_sound schema) (sym c.requires) ∙ sym c.are_sound.ensures ∙ c.if-not-are_sound.true in
    first_fails (are_sound schema (members_of schema)) (has_sound_names schema) (has_sound_http schema) sound

pub returns-then-not-sound : goal.returns-then-not-sound
returns-then-not-sound c =
    let schema = schema_of c.args.schema in
    let sound : are_sound schema (members_of schema) ≡ true = ap (are_sound schema) (sym c.requires) ∙ sym c.are_sound.ensures ∙ c.if-not-are_sound.false in
    let unlike : c.in_ok-sound.sound ≡ has_sound_names schema = c.in_ok-sound.ensures ∙ ap have_sound_names c.requires in
    second_fails (are_sound schema (members_of schema)) (has_sound_names schema) (has_sound_http schema) sound (sym unlike ∙ c.if-not-sound.true)

pub returns : goal.returns
returns c =
    let schema = schema_of c.args.schema in
    let sound : are_sound schema (members_of schema) ≡ true = ap (are_sound schema) (sym c.requires) ∙ sym c.are_sound.ensures ∙ c.if-not-are_sound.false in
    let unlike : c.in_ok-sound.sound ≡ has_sound_names schema = c.in_ok-sound.ensures ∙ ap have_sound_names c.requires in
    IfOk-weaker c.is_sound_http.result _ _
    (λ b e. e ∙ third_decides (are_sound schema (members_of schema)) (has_sound_names schema) (has_sound_http schema) sound (sym unlike ∙ c.if-not-sound.false)) c.is_sound_http.ensures
