-- A signed number is read where its varint is.
use Rattle.std.proofs.Common.{◌≡◌, ℕ, ℤ, inl, inr, List, Ok, Err, refl}
use Rattle.proto_wire.specs.declared.fault.WireFault.{WireFault}
use Rattle.proto_wire.specs.Varint.{varint_at}
use Rattle.proto_wire.specs.Zigzag.{unzigzag_of, sint64_at}
use Rattle.proto_wire.proofs.FieldLaws.{bind_ok, bind_err}

pub sint64_found : (bytes : List ℕ) (x : ℤ × List ℕ) → sint64_at bytes ≡ Ok x → (n : ℕ) × (varint_at bytes ≡ Ok (n, x.1)) × (unzigzag_of n ≡ x.0)
unfolding sint64_at
sint64_found bytes x e =
    let b = bind_ok (varint_at bytes) (λ v. Ok (unzigzag_of v.0, v.1)) x e in
    let is : x ≡ (unzigzag_of b.0.0, b.0.1) = cc in
    rw is (b.0.0, b.1, refl)

pub sint64_refused : (bytes : List ℕ) (f : WireFault) → sint64_at bytes ≡ Err f → varint_at bytes ≡ Err f
unfolding sint64_at
sint64_refused bytes f e =
    elim (bind_err (varint_at bytes) (λ v. Ok (unzigzag_of v.0, v.1)) f e) [
      | inl none ↦ none
      | inr b ↦ absurd (let not_both = b.2 in cc)
    ]
