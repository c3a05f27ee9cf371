-- At the file's end there is no entry.
use Rattle.std.proofs.Common.{◌≡◌, List, [], ◌∷◌, true, Option, Some, None, IfSome, Result, Ok, Err, inl, inr, refl, ap, sym, subst, ◌∙◌, ◌⊎◌, slice_get}
use Rattle.std.specs.Prelude.{option_map}
use Rattle.hip_io.specs.Cabinets.{CabinetState}
use Rattle.hip_trace.specs.Pieces.{spelled}
use Rattle.hip_trace.specs.Reads.{ReaderState, ahead, entries_left, ReadsOn}
use Rattle.hip_trace.specs.declared.entry.Entry.{Entry}
use Rattle.hip_trace.specs.declared.refusal.TraceRefusal.{TraceRefusal}
use Rattle.hip_trace.specs.declared.refusal.TraceRefusal.TheVariants.{Malformed, ReadFault}

some_left : (e : Entry) (o : Option (List (Option Entry))) → Some [] ≡ option_map (λ es. Some e ∷ es) o → ⊥
some_left e None h = cc
some_left e (Some es) h = cc

none_spelled : (r : ReaderState) (s : CabinetState) → ahead r s ≡ Some [] → entries_left r s ≡ Some []
none_spelled r s e = ap (option_map (spelled true)) e

pub readers_end : (r r' : ReaderState) (s s' : CabinetState) (result : Result (Option Entry) TraceRefusal) → ahead r s ≡ Some [] → ReadsOn r r' s s' result → (result ≡ Ok None) ⊎ (result ≡ Err ReadFault)
readers_end r r' s s' (Ok None) e h = inl refl
readers_end r r' s s' (Ok (Some x)) e h = absurd (some_left x (entries_left r' s') (sym (none_spelled r s e) ∙ h.entries))
readers_end r r' s s' (Err Malformed) e h =
    let none : slice_get [] 0 ≡ Some None = subst (λ (o : Option (List (Option Entry))). IfSome o (λ es. slice_get es 0 ≡ Some None)) (none_spelled r s e) h.entries in
    absurd (let z : ⊥ = cc in z)
readers_end r r' s s' (Err ReadFault) e h = inr refl
