-- What holds of a value that may be there.
use Rattle.std.specs.Prelude.{Option, Some, None, option_map, option_and_then, IfSome}

pub mapped : {A B : Type 0} (P : A → Type 0) (Q : B → Type 0) (f : A → B) → ((x : A) → P x → Q (f x)) → (o : Option A) → IfSome o P → IfSome (option_map f o) Q
mapped P Q f step None h = tt
mapped P Q f step (Some x) h = step x h

pub after : {A B : Type 0} (P : A → Type 0) (Q : B → Type 0) (f : A → Option B) → ((x : A) → P x → IfSome (f x) Q) → (o : Option A) → IfSome o P → IfSome (option_and_then f o) Q
after P Q f step None h = tt
after P Q f step (Some x) h = step x h

pub joined : {A B C : Type 0} (P : A → Type 0) (Q : B → Type 0) (R : C → Type 0) (f : A → B → C) → ((x : A) (y : B) → P x → Q y → R (f x y)) → (o : Option A) (p : Option B) → IfSome o P → IfSome p Q
    → IfSome (option_and_then (λ x. option_map (f x) p) o) R
joined P Q R f step o p h j = after P R (λ x. option_map (f x) p) (λ x k. mapped Q R (f x) (λ y l. step x y k l) p j) o h
