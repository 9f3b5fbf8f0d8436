-- A map of texts that is read entry by entry, over the loop that walks it.
use Rattle.std.proofs.Common.{◌≡◌, ℕ, List, [], ◌∷◌, Option, Some, None, Result, Ok, Err, Ordering, Less, Equal, Greater, nat_cmp, refl, ap, sym, subst, ◌∙◌}
use Rattle.std.specs.Prelude.{IfSome}
use Rattle.std.specs.Cmp.Lexicographic.{slice_cmp}
use Rattle.std.specs.Ordering.{match_ordering}
use Rattle.smithy_types.specs.Maps.{with_value}
use Rattle.smithy_types.specs.Results.{then_give}
use Rattle.smithy_schema.specs.Nodes.{Schema}
use Rattle.smithy_serde.specs.Values.{Scalar, text}
use Rattle.smithy_serde.specs.declared.error.SerdeError.{SerdeError}
use Rattle.smithy_serde.specs.declared.error.SerdeError.TheVariants.{OutOfMemory}
use Rattle.smithy_serde.specs.declared.scalar.Group.TheVariants as group
use Rattle.smithy_serde.specs.declared.read_scalar.ScalarKind.TheVariants as of
use Rattle.smithy_serde.specs.views.Handing.{KeepsNone, none_kept, Takes, HandsAll, at_entries}
use Rattle.smithy_serde.specs.Held.{Held}
use Rattle.smithy_serde.specs.HeldReads.{read_scalar, entries}
use Rattle.smithy_serde.specs.Listings.{at_key}
use Rattle.smithy_serde.specs.ListReads.{prelude_of, with_read, text_of_entry, CollectsText, read_texts, ReadsTexts}
use Rattle.smithy_serde.specs.ReadCalls.{AtHand, Gives, Reads, read_at, type_of, Opened, NotOpened, Advanced, Closed, Halted}
use Rattle.smithy_serde.proofs.ReadCollect.{items_ok, items_err, one_given, one_refused, one_dropped, if_told, gives_at}
use Rattle.smithy_serde.proofs.ReadWalk.{Walking, not_opened, begins, halted, ends, taken, stopped}

-- the entries so far were read
abbrev pub ReadingTexts : Schema → List (List ℕ × List ℕ) → AtHand → AtHand → Type 0
ReadingTexts node es before now = Walking (at_entries CollectsText) KeepsNone group.Map node [] (read_texts es) before now

match_map : {X Y : Type 0} (f : X → Y) (o : Ordering) (a b c : X) → f (match_ordering o a b c) ≡ match_ordering o (f a) (f b) (f c)
match_map f Less a b c = refl
match_map f Equal a b c = refl
match_map f Greater a b c = refl

-- a text put into the map
read_put : (key value : List ℕ) (es : List (List ℕ × List ℕ)) → read_texts (with_value key value es) ≡ with_value key (text value) (read_texts es)
read_put key value [] = refl
read_put key value (e ∷ es) =
    match_map read_texts (slice_cmp nat_cmp key e.0) ((key, value) ∷ e ∷ es) ((e.0, value) ∷ es) (e ∷ with_value key value es)
    ∙ ap (λ l. match_ordering (slice_cmp nat_cmp key e.0) ((key, text value) ∷ (e.0, text e.1) ∷ read_texts es) ((e.0, text value) ∷ read_texts es) ((e.0, text e.1) ∷ l)) (read_put key value es)

-- the read of an entry, by that of its value
with_key : {A : Type 0} (key : List ℕ) (f : A → Scalar) (r : Result Scalar SerdeError) (a : Result A SerdeError) → Gives f (Some r) a → Gives {V = List ℕ × Scalar} (λ x. (key, f x)) (Some (then_give r (λ x. (key, x)))) a
with_key key f (Ok v) (Ok a) e = ap (λ x. (key, x)) e
with_key key f (Ok v) (Err x) m = m
with_key key f (Err x) (Ok a) bad = bad
with_key key f (Err x) (Err y) e = e

entry_at : (key : List ℕ) (held : Option Held) (h : Held) (a : Result (List ℕ) SerdeError) → held ≡ Some h → Gives text (read_at of.String (prelude_of of.String) held) a → Gives {V = List ℕ × Scalar} (λ x. (key, text x)) (Some (text_of_entry (key, h))) a
entry_at key held h a is g = with_key key text (read_scalar (type_of of.String) (prelude_of of.String) h) a (gives_at text of.String held h a is g)

module _ (node : Schema) (before : AtHand) where
  texts_err : (last : List (List ℕ × Scalar)) (after : AtHand) (e : SerdeError) → HandsAll (at_entries CollectsText) KeepsNone group.Map node [] last before after (Err e) → ReadsTexts node before after (Err e)
  texts_err last after e all = record {
    gives = items_err (at_entries CollectsText) group.Map node (entries node) (λ x. (at_key x.0, x.1)) text_of_entry with_read [] read_texts (λ h. refl) (λ s x t a took. took) before last e all.handed;
    leaves = all.leaves;
  }

  pub texts_not_opened : (now : AtHand) (e : SerdeError) → NotOpened group.Map node before now e → ReadsTexts node before now (Err e)
  texts_not_opened now e n = texts_err [] now e (not_opened {takes = at_entries CollectsText} none_kept [] before now e n)

  pub texts_begin : (now : AtHand) → Opened group.Map node before now → ReadingTexts node [] before now
  texts_begin now o = begins none_kept [] before now o

  pub texts_halted : (es : List (List ℕ × List ℕ)) (now after : AtHand) (e : SerdeError) → ReadingTexts node es before now → Halted None now after e → ReadsTexts node before after (Err e)
  texts_halted es now after e w h = texts_err (read_texts es) after e (halted none_kept [] (read_texts es) before now after e w h)

  pub texts_end : (es : List (List ℕ × List ℕ)) (now after : AtHand) → ReadingTexts node es before now → Closed None now after → ReadsTexts node before after (Ok es)
  texts_end es now after w c =
      let all = ends none_kept [] (read_texts es) before now after w c in
      record {
        gives = items_ok (at_entries CollectsText) group.Map node (entries node) (λ x. (at_key x.0, x.1)) text_of_entry with_read [] read_texts (λ h. refl) (λ s x t a took. took) before es all.handed;
        leaves = all.leaves;
      }

  texts_stopped : (es : List (List ℕ × List ℕ)) (key : List ℕ) (now mid after : AtHand) (e : SerdeError) → ReadingTexts node es before now → Advanced None (at_key key) now mid
      → Takes (at_entries CollectsText) KeepsNone (at_key key) (read_texts es) (read_texts es) mid after (Err e) → ReadsTexts node before after (Err e)
  texts_stopped es key now mid after e w a t =
      texts_err (read_texts es) after e (stopped none_kept [] (read_texts es) (read_texts es) (at_key key) e before now mid after (λ _. refl) w a t)

  -- an entry was read and put, was refused, or was read and found no room
  pub texts_put : (es fs : List (List ℕ × List ℕ)) (key value : List ℕ) (now mid after : AtHand) → ReadingTexts node es before now → Advanced None (at_key key) now mid → Reads text of.String (prelude_of of.String) mid after (Ok value)
      → fs ≡ with_value key value es → ReadingTexts node fs before after
  texts_put es fs key value now mid after w adv r e =
      taken none_kept [] (read_texts es) (read_texts fs) (at_key key) before now mid after w adv record {
        taken = subst (λ l. IfSome mid.held (λ h. CollectsText (read_texts es) key h l (Ok tt))) (sym (ap read_texts e ∙ read_put key value es))
            (if_told (λ h. CollectsText (read_texts es) key h (with_value key (text value) (read_texts es)) (Ok tt)) mid.held
            (λ h is. one_given with_read (λ x. (key, text x)) (text_of_entry (key, h)) (read_texts es) value (entry_at key mid.held h (Ok value) is r.gives)));
        kept = tt;
        leaves = r.opened;
      }

  pub texts_refused : (es : List (List ℕ × List ℕ)) (key : List ℕ) (now mid after : AtHand) (e : SerdeError) → ReadingTexts node es before now → Advanced None (at_key key) now mid
      → Reads {A = List ℕ} text of.String (prelude_of of.String) mid after (Err e) → ReadsTexts node before after (Err e)
  texts_refused es key now mid after e w adv r =
      texts_stopped es key now mid after e w adv record {
        taken = if_told (λ h. CollectsText (read_texts es) key h (read_texts es) (Err e)) mid.held
            (λ h is. one_refused with_read (λ x. (key, text x)) (text_of_entry (key, h)) (read_texts es) e (entry_at key mid.held h (Err e) is r.gives));
        kept = tt;
        leaves = ([], r.opened);
      }

  pub texts_dropped : (es : List (List ℕ × List ℕ)) (key value : List ℕ) (now mid after : AtHand) (e : SerdeError) → ReadingTexts node es before now → Advanced None (at_key key) now mid
      → Reads text of.String (prelude_of of.String) mid after (Ok value) → e ≡ OutOfMemory → ReadsTexts node before after (Err e)
  texts_dropped es key value now mid after e w adv r m =
      texts_stopped es key now mid after e w adv record {
        taken = if_told (λ h. CollectsText (read_texts es) key h (read_texts es) (Err e)) mid.held (λ h is. one_dropped with_read (text_of_entry (key, h)) (read_texts es) e m);
        kept = tt;
        leaves = ([], r.opened);
      }
