-- What reads in a row take from an input whose bytes are known.
use Rattle.std.proofs.Common.{◌≡◌, ◌∙◌, ap, refl, sym, subst, ℕ, suc, ◌+◌, ◌*◌, ◌<◌, ◌≤◌, true, false, List, [], ◌∷◌, ◌++◌, length, take, arith, inl, inr}
use Rattle.std.proofs.lemmas.List.{append-nil, get_or_append_left, get_or_default, length-append, take_all, take_more}
use Rattle.list_laws.proofs.Places.{no_place, slice_get-push}
use Rattle.std.specs.Prelude.{Option, Some, None, IfSome}
use Rattle.std.specs.Io.KnownBytes.{Consumes, IsAtEnd}
use Rattle.std.specs.Prelude.{get_or, slice_get}
use Rattle.vrepl_main.specs.Inputs.{input_name, AreGiven, IsUnread, IsUnreadAmong}
use Rattle.vrepl_main.specs.declared.input.InputName.{InputName}
use Rattle.vrepl_main.specs.declared.input.InputName.TheVariants.{Standard}
use Rattle.vrepl_main.specs.declared.refusal.CommandRefusal.{CommandRefusal}
use Rattle.vrepl_main.specs.declared.refusal.CommandRefusal.TheVariants.{Memory, Workflow, NoStream, FeedCount, NotReached, Feed, BadHex, BadScript, BadDump, Changed, CannotRead, CannotWrite}

-- a read that finds the end shows that the bytes are all that was left
pub whole : (old mid new : Option (List ℕ)) (bytes piece : List ℕ) (n : ℕ) → n ≡ 0 → Consumes old mid bytes → Consumes mid new (take n piece) → IsAtEnd new → IfSome old (λ left. bytes ≡ left)
whole None mid new bytes piece n e p q r = tt
whole (Some xs) None new bytes piece n e p q r = absurd p
whole (Some xs) (Some ys) None bytes piece n e p q r = absurd q
whole (Some xs) (Some ys) (Some zs) bytes piece n e p q r =
    sym (p ∙ ap (λ l. bytes ++ l) (q ∙ ap (λ k. take k piece ++ zs) e ∙ r) ∙ append-nil bytes)

-- what is left isn't as long as all the reads together might take
pub limit : (old : Option (List ℕ)) (bytes : List ℕ) (i reads : ℕ) → IfSome old (λ left. bytes ≡ left) → length bytes ≤ i * 65536 → i < reads → IfSome old (λ left. reads * 65536 ≤ length left → false ≡ true)
limit None bytes i reads e h lt = tt
limit (Some xs) bytes i reads e h lt =
    λ many. let same : length bytes ≡ length xs = ap length e in absurd (omega arith)

-- one of some inputs can't be read
unread_among : (names : List InputName) (i : ℕ) (refusal : CommandRefusal) → i < length names → IsUnread (input_name (get_or names i Standard)) refusal → IsUnreadAmong names refusal
unread_among names i Memory within unread = tt
unread_among names i (CannotRead file) within unread = (i, within, unread)
unread_among names i (Workflow fault) within unread = absurd unread
unread_among names i NoStream within unread = absurd unread
unread_among names i (Changed file) within unread = absurd unread
unread_among names i FeedCount within unread = absurd unread
unread_among names i (NotReached stream) within unread = absurd unread
unread_among names i (Feed fault) within unread = absurd unread
unread_among names i BadHex within unread = absurd unread
unread_among names i (BadScript bad) within unread = absurd unread
unread_among names i (BadDump bad) within unread = absurd unread
unread_among names i (CannotWrite file) within unread = absurd unread

pub IsUnreadAmong-one : (names : List InputName) (i : ℕ) (default : InputName) (refusal : CommandRefusal) → i < length names → IsUnread (input_name (get_or names i default)) refusal → IsUnreadAmong names refusal
IsUnreadAmong-one names i default refusal within unread =
    unread_among names i refusal within (subst (λ name. IsUnread (input_name name) refusal) (get_or_default names i default Standard within) unread)

-- ---- parts of what is read

-- the first can't be read
pub unread_first : (name : InputName) (others : List InputName) (refusal : CommandRefusal) → IsUnread (input_name name) refusal → IsUnreadAmong (name ∷ others) refusal
unread_first name others refusal unread = unread_among (name ∷ others) 0 refusal (omega arith) unread

-- one of the others can't
pub unread_later : (name : InputName) (others : List InputName) (refusal : CommandRefusal) → IsUnreadAmong others refusal → IsUnreadAmong (name ∷ others) refusal
unread_later name others Memory unread = tt
unread_later name others (CannotRead file) (i, within, is) = (suc i, omega (arith, within), is)
unread_later name others (Workflow fault) unread = absurd unread
unread_later name others NoStream unread = absurd unread
unread_later name others (Changed file) unread = absurd unread
unread_later name others FeedCount unread = absurd unread
unread_later name others (NotReached stream) unread = absurd unread
unread_later name others (Feed fault) unread = absurd unread
unread_later name others BadHex unread = absurd unread
unread_later name others (BadScript bad) unread = absurd unread
unread_later name others (BadDump bad) unread = absurd unread
unread_later name others (CannotWrite file) unread = absurd unread

-- one of those behind some can't
pub unread_behind : (some others : List InputName) (refusal : CommandRefusal) → IsUnreadAmong others refusal → IsUnreadAmong (some ++ others) refusal
unread_behind [] others refusal unread = unread
unread_behind (name ∷ some) others refusal unread = unread_later name (some ++ others) refusal (unread_behind some others refusal unread)

-- one of those before others can't
pub unread_before : (some others : List InputName) (refusal : CommandRefusal) → IsUnreadAmong some refusal → IsUnreadAmong (some ++ others) refusal
unread_before some others Memory unread = tt
unread_before some others (CannotRead file) (i, within, is) =
    let least : length some ≤ length (some ++ others) = subst (λ (n : ℕ). length some ≤ n) (sym (length-append some others)) (omega arith) in
    (i, omega (arith, within, least), is ∙ ap input_name (sym (get_or_append_left some others Standard i within)))
unread_before some others (Workflow fault) unread = absurd unread
unread_before some others NoStream unread = absurd unread
unread_before some others (Changed file) unread = absurd unread
unread_before some others FeedCount unread = absurd unread
unread_before some others (NotReached stream) unread = absurd unread
unread_before some others (Feed fault) unread = absurd unread
unread_before some others BadHex unread = absurd unread
unread_before some others (BadScript bad) unread = absurd unread
unread_before some others (BadDump bad) unread = absurd unread
unread_before some others (CannotWrite file) unread = absurd unread

-- ---- what is read under each name

module _ (Gives : InputName → List ℕ → Type 0) (names : List InputName) where
  -- nothing is read yet
  pub given_none : AreGiven Gives (take 0 names) []
  given_none = record { count = refl; each = λ i name text at_n at_t. no_place i name at_n }

  -- one more is read
  pub given_more : (i : ℕ) (d : InputName) (texts : List (List ℕ)) (text : List ℕ) → i < length names → AreGiven Gives (take i names) texts → Gives (get_or names i d) text → AreGiven Gives (take (i + 1) names) (texts ++ text ∷ [])
  given_more i d texts text within so_far one = subst (λ (l : List InputName). AreGiven Gives l (texts ++ text ∷ [])) (sym (take_more names i d within)) (record { count = count; each = each })
    where
      count : length (texts ++ text ∷ []) ≡ length (take i names ++ get_or names i d ∷ [])
      count = length-append texts (text ∷ []) ∙ ap (λ n. n + 1) so_far.count ∙ sym (length-append (take i names) (get_or names i d ∷ []))

      each : (j : ℕ) (name : InputName) (t : List ℕ) → slice_get (take i names ++ get_or names i d ∷ []) j ≡ Some name → slice_get (texts ++ text ∷ []) j ≡ Some t → Gives name t
      each j name t at_n at_t =
          elim (slice_get-push (take i names) (get_or names i d) name j at_n) [
            | inl before ↦
                elim (slice_get-push texts text t j at_t) [
                  | inl old ↦ so_far.each j name t before.1 old.1
                  | inr last ↦ absurd (omega (arith, before.0, last.0, so_far.count))
                ]
            | inr name_last ↦
                elim (slice_get-push texts text t j at_t) [
                  | inl old ↦ absurd (omega (arith, name_last.0, old.0, so_far.count))
                  | inr last ↦ subst (λ (x : InputName). Gives x t) name_last.1 (subst (Gives (get_or names i d)) last.1 one)
                ]
          ]

  -- all are read
  pub given_all : (i : ℕ) (texts : List (List ℕ)) → length names ≤ i → AreGiven Gives (take i names) texts → AreGiven Gives names texts
  given_all i texts most so_far = subst (λ (l : List InputName). AreGiven Gives l texts) (take_all i names most) so_far
