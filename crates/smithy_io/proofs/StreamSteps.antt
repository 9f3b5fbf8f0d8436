-- A stream, one piece after another.
use Rattle.std.proofs.Common.{◌≡◌, ℕ, ◌+◌, ◌-◌, ◌<◌, ◌≤◌, min, List, [], ◌++◌, length, take, drop, Option, Some, None, refl, sym, ap, ◌∙◌, append_assoc, arith}
use Rattle.std.proofs.lemmas.List.{append-nil, length-append, take-append-drop, drop-drop, take_at, length-take-le, length-drop, nil_from_length}
use Rattle.smithy_io.specs.Streams.{Gave, Gained, EndsAt, Keeps, IsWhole, HasReadPart}

pub gave_nothing : (before : Option (List ℕ)) → Gave before [] before
gave_nothing None = tt
gave_nothing (Some all) = (all, refl, refl)

pub gave_more : (before mid after : Option (List ℕ)) (given piece : List ℕ) → Gave before given mid → Gave mid piece after → Gave before (given ++ piece) after
gave_more None mid after given piece h k = tt
gave_more (Some all) mid after given piece h k =
    let k2 : Gave (Some h.0) piece after = rw h.1 at k in
    (k2.0, k2.1, h.2 ∙ ap (λ r. given ++ r) k2.2 ∙ sym (append_assoc given piece k2.0))

pub part_more : (most : ℕ) (before mid after : Option (List ℕ)) (given piece : List ℕ) → Gave before given mid → Gave mid piece after → length given + length piece ≤ most + 1 → HasReadPart most before after
part_more most before mid after given piece h k short = (given ++ piece, rw length-append short, gave_more before mid after given piece h k)

pub gave_all : (before mid after : Option (List ℕ)) (given : List ℕ) → Gave before given mid → EndsAt 0 mid → Gave mid [] after → IsWhole before given after
gave_all None mid after given h e k = tt
gave_all (Some all) mid after given h e k =
    let e2 : EndsAt 0 (Some h.0) = rw h.1 at e in
    let k2 : Gave (Some h.0) [] after = rw h.1 at k in
    let none : h.0 ≡ [] = e2.0 refl in
    (sym (h.2 ∙ ap (λ r. given ++ r) none ∙ append-nil given), k2.1 ∙ ap (λ (r : List ℕ). Some r) (sym k2.2 ∙ none))

pub gained_nothing : (before : Option (List ℕ)) → Gained before [] before
gained_nothing None = tt
gained_nothing (Some bytes) = ap (λ (r : List ℕ). Some r) (sym (append-nil bytes))

pub gained_more : (before mid after : Option (List ℕ)) (first second : List ℕ) → Gained before first mid → Gained mid second after → Gained before (first ++ second) after
gained_more None mid after first second h k = tt
gained_more (Some bytes) mid after first second h k =
    let k2 : Gained (Some (bytes ++ first)) second after = rw h at k in
    k2 ∙ ap (λ (r : List ℕ). Some r) (append_assoc bytes first second)

pub gained_kept : (before mid after : Option (List ℕ)) (gain : List ℕ) → Gained before gain mid → Keeps mid after → Gained before gain after
gained_kept None mid after gain h k = tt
gained_kept (Some bytes) mid after gain h k = rw h at k

pub gave_front : (items buf more : List ℕ) (done n : ℕ) → n ≤ length (drop done items) → buf ≡ take n (drop done items) ++ more → Gave (Some (drop done items)) (take n buf) (Some (drop (done + n) items))
gave_front items buf more done n h e =
    let front : take n buf ≡ take n (drop done items) = ap (take n) e ∙ take_at (take n (drop done items)) more n (length-take-le n (drop done items) h) in
    (drop (done + n) items, refl, sym (rw (front, ← (drop-drop n done items)) (take-append-drop n (drop done items))))

pub ends_at_length : (items : List ℕ) (done n size : ℕ) → n ≡ min size (length items - done) → 0 < size → EndsAt n (Some (drop done items))
ends_at_length items done n size e some = (
  λ z. nil_from_length (drop done items) (rw length-drop (omega arith)),
  λ none. let l : length items - done ≡ 0 = sym (length-drop done items) ∙ ap length none in omega arith,
)
