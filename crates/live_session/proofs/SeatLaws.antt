-- Seats that are made one behind another.
use Rattle.std.proofs.Common.{◌≡◌, ℕ, inl, inr, List, [], ◌∷◌, ◌++◌, length, Some, slice_get, subst, sym, ap, ◌∙◌}
use Rattle.list_laws.proofs.Places.{slice_get-push}
use Rattle.live_session.specs.declared.seat.Seat.{Seat}

-- each is as it is to be, with one more
pub seats-more : (due : ℕ → Seat) (s : ℕ) (seats longer : List Seat) (one : Seat) → longer ≡ seats ++ one ∷ [] → length seats ≡ s → one ≡ due s → ((t : ℕ) (seat : Seat) → slice_get seats t ≡ Some seat → seat ≡ due t)
    → (t : ℕ) (seat : Seat) → slice_get longer t ≡ Some seat → seat ≡ due t
seats-more due s seats longer one is count last before t seat found =
    elim (slice_get-push seats one seat t (subst (λ (l : List Seat). slice_get l t ≡ Some seat) is found)) [
      | inl old ↦ before t seat old.1
      | inr new ↦ sym new.1 ∙ (last ∙ ap due (sym count ∙ sym new.0))
    ]
