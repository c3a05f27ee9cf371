-- What was read of a file, for each way in which a read ends.
use Rattle.std.proofs.Common.{ℕ, ◌+◌, ◌≡◌, ◌≤◌, ◌<◌, inr, List, [], ◌++◌, length, drop, take, Option, Some, None, option_map, Result, Ok, Err, sym, subst, ap, ◌∙◌, arith, append_assoc, append-nil, length-append}
use Rattle.std.proofs.Math.Seq.{drop-append_seam}
use Rattle.std.proofs.lemmas.List.{length-take-le}
use Rattle.std.specs.Prelude.{IfSome}
use Rattle.hip_io.specs.Cabinets.{CabinetState, HasGot, IsFetched, IsFirstFile}
use Rattle.hip_io.specs.Counts.{Rose}
use Rattle.hip_io.specs.Reads.{HasTakenAll, HasTakenPart, ReadHasStopped, HasTakenRest, HasTakenTooMuch, HasReadRest, IsPartTaken, IsWholeFile, IsLongFile, HasBegun, HasReadWhole, HasReadTooMuch, HasRead}
use Rattle.hip_io.specs.declared.cabinet.NamedFile.{NamedFile}
use Rattle.hip_io.specs.declared.read.ReadRefusal.{ReadRefusal}
use Rattle.hip_io.specs.declared.read.ReadRefusal.TheVariants as refusals

pub both_pieces : (xs ys : List ℕ) (old mid new : Option (List ℕ)) → old ≡ option_map (λ rest. xs ++ rest) mid → mid ≡ option_map (λ rest. ys ++ rest) new → old ≡ option_map (λ rest. (xs ++ ys) ++ rest) new
both_pieces xs ys old mid None p q = p ∙ ap (option_map (λ rest. xs ++ rest)) q
both_pieces xs ys old mid (Some rest) p q = p ∙ ap (option_map (λ rest. xs ++ rest)) q ∙ ap (λ (zs : List ℕ). Some zs) (sym (append_assoc xs ys rest))

-- Memory ran out for the piece that came last.
pub stopped : (old mid new : CabinetState) (limit n : ℕ) (bytes buffer : List ℕ) → HasTakenAll old mid bytes → HasGot mid new buffer n → length bytes + n ≤ limit + 1 → ReadHasStopped old new limit
stopped old mid new limit n bytes buffer h k le = record {
  part = record {
    bytes = bytes ++ take n buffer;
    stays = record { files = k.stays.files ∙ h.stays.files; fetches = k.stays.fetches ∙ h.stays.fetches; misses = k.stays.misses ∙ h.stays.misses; current = k.stays.current; named = k.stays.named ∙ h.stays.named };
    few = omega (arith, length-append bytes (take n buffer), length-take-le n buffer k.fits, le);
    rest = both_pieces bytes (take n buffer) old.rest mid.rest new.rest h.rest k.bytes;
  };
  faults = k.faults ∙ h.faults;
}

-- A file that was fetched, and read in part.
pub begun : (old mid new : CabinetState) (name : List ℕ) (limit : ℕ) → IsFetched old mid name → HasTakenPart mid new limit → HasBegun old new name limit
begun old mid new name limit f p = record {
  current = p.stays.current;
  named = subst (λ (x : Option (List ℕ)). IfSome x (λ n. n ≡ name)) (sym p.stays.named) f.named;
  stated = by_files old.files f.stated;
}
  where
    left : (bytes xs : List ℕ) (rest : Option (List ℕ)) → Some bytes ≡ option_map (λ rest. xs ++ rest) rest → rest ≡ Some (drop (length xs) bytes)
    left bytes xs None e = absurd (let z : ⊥ = cc in z)
    left bytes xs (Some rest) e = let q : bytes ≡ xs ++ rest = cc in ap (λ (ys : List ℕ). Some ys) (sym (ap (drop (length xs)) q ∙ drop-append_seam xs rest))

    part : (files : List NamedFile) → IsFirstFile files name mid → IsPartTaken files name limit new
    part files t = record {
      bytes = t.bytes;
      count = length p.bytes;
      found = t.found;
      few = p.few;
      named = p.stays.named ∙ t.named;
      rest = left t.bytes p.bytes new.rest (sym t.rest ∙ p.rest);
    }

    by_files : (files : Option (List NamedFile)) → IfSome files (λ fs. IsFirstFile fs name mid) → IfSome files (λ fs. IsPartTaken fs name limit new)
    by_files None t = tt
    by_files (Some fs) t = part fs t

-- ---- the answers

whole : (old mid new : CabinetState) (name : List ℕ) (limit : ℕ) (bytes : List ℕ) → IsFetched old mid name → HasTakenRest mid new limit bytes → HasReadWhole old new name limit bytes
whole old mid new name limit bytes f r = record {
  files = r.taken.stays.files ∙ f.files;
  fetches = r.taken.stays.fetches ∙ f.fetches;
  misses = r.taken.stays.misses ∙ f.misses;
  faults = r.taken.faults ∙ f.faults;
  current = r.taken.stays.current;
  named = subst (λ (x : Option (List ℕ)). IfSome x (λ n. n ≡ name)) (sym r.taken.stays.named) f.named;
  fits = r.fits;
  stated = by_files old.files f.stated;
}
  where
    all : (first : List ℕ) (rest : Option (List ℕ)) → Some first ≡ option_map (λ rest. bytes ++ rest) rest → IfSome rest (λ xs. xs ≡ []) → (first ≡ bytes) × (rest ≡ Some [])
    all first None e h = absurd (let z : ⊥ = cc in z)
    all first (Some rest) e h =
        let q : first ≡ bytes ++ rest = cc in
        (q ∙ ap (λ (ys : List ℕ). bytes ++ ys) h ∙ append-nil bytes, ap (λ (ys : List ℕ). Some ys) h)

    file : (files : List NamedFile) → IsFirstFile files name mid → IsWholeFile files name bytes new
    file files t =
        let a = all t.bytes new.rest (sym t.rest ∙ r.taken.rest) r.ended in
        record { found = t.found ∙ ap (λ (ys : List ℕ). Some ys) a.0; named = r.taken.stays.named ∙ t.named; rest = a.1 }

    by_files : (files : Option (List NamedFile)) → IfSome files (λ fs. IsFirstFile fs name mid) → IfSome files (λ fs. IsWholeFile fs name bytes new)
    by_files None t = tt
    by_files (Some fs) t = file fs t

too_much : (old mid new : CabinetState) (name : List ℕ) (limit : ℕ) → IsFetched old mid name → HasTakenTooMuch mid new limit → HasReadTooMuch old new name limit
too_much old mid new name limit f r = record {
  files = r.taken.stays.files ∙ f.files;
  fetches = r.taken.stays.fetches ∙ f.fetches;
  misses = r.taken.stays.misses ∙ f.misses;
  faults = r.taken.faults ∙ f.faults;
  current = r.taken.stays.current;
  named = subst (λ (x : Option (List ℕ)). IfSome x (λ n. n ≡ name)) (sym r.taken.stays.named) f.named;
  stated = by_files old.files f.stated;
}
  where
    long : (first : List ℕ) (rest : Option (List ℕ)) → Some first ≡ option_map (λ rest. r.bytes ++ rest) rest → (limit < length first) × (rest ≡ Some (drop (limit + 1) first))
    long first None e = absurd (let z : ⊥ = cc in z)
    long first (Some rest) e =
        let q : first ≡ r.bytes ++ rest = cc in
        let n : length first ≡ length r.bytes + length rest = ap length q ∙ length-append r.bytes rest in
        (omega (arith, n, r.long), ap (λ (ys : List ℕ). Some ys) (sym (ap (drop (limit + 1)) q ∙ ap (λ k. drop k (r.bytes ++ rest)) (sym r.long) ∙ drop-append_seam r.bytes rest)))

    file : (files : List NamedFile) → IsFirstFile files name mid → IsLongFile files name limit new
    file files t =
        let a = long t.bytes new.rest (sym t.rest ∙ r.taken.rest) in
        record { bytes = t.bytes; found = t.found; long = a.0; named = r.taken.stays.named ∙ t.named; rest = a.1 }

    by_files : (files : Option (List NamedFile)) → IfSome files (λ fs. IsFirstFile fs name mid) → IfSome files (λ fs. IsLongFile fs name limit new)
    by_files None t = tt
    by_files (Some fs) t = file fs t

-- The answer of reading the rest after the fetch is the answer of reading the whole file.
pub read_on : (old mid new : CabinetState) (name : List ℕ) (limit : ℕ) (r : Result (List ℕ) ReadRefusal) → IsFetched old mid name → HasReadRest mid new limit r → HasRead old new name limit r
read_on old mid new name limit (Ok bytes) f r = whole old mid new name limit bytes f r
read_on old mid new name limit (Err refusals.Missing) f r = absurd r
read_on old mid new name limit (Err refusals.ReadFault) f r = record {
  files = r.part.stays.files ∙ f.files;
  fetches = r.part.stays.fetches ∙ f.fetches;
  misses = r.part.stays.misses ∙ f.misses;
  later = omega (arith, r.later, f.faults);
  rose = subst (λ n. Rose n new.faults) f.faults r.rose;
  begun = inr (begun old mid new name limit f r.part);
}
read_on old mid new name limit (Err refusals.TooLarge) f r = too_much old mid new name limit f r
read_on old mid new name limit (Err refusals.NoMemory) f r = record {
  files = r.part.stays.files ∙ f.files;
  fetches = r.part.stays.fetches ∙ f.fetches;
  misses = r.part.stays.misses ∙ f.misses;
  faults = r.faults ∙ f.faults;
  begun = begun old mid new name limit f r.part;
}
