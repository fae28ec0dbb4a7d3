-- A part of a part of a text is a part of it.
use Rattle.std.proofs.Common.{◌≡◌, ap, sym, ◌∙◌, append_assoc, append-nil, ℕ, List, [], ◌++◌, Option, Some, None, IfSome, Bor}
use Rattle.dpl_hints.specs.Hints.{Holds}

pub holds-all : (text : List ℕ) → Holds text text
holds-all text = record { front = []; back = []; parts = sym (append-nil text) }

pub holds-both : (text middle part : List ℕ) → Holds text middle → Holds middle part → Holds text part
holds-both text middle part h k = record {
  front = h.front ++ k.front;
  back = k.back ++ h.back;
  parts =
      h.parts
      ∙ ap (λ m. h.front ++ (m ++ h.back)) k.parts
      ∙ ap (λ m. h.front ++ m) (append_assoc k.front (part ++ k.back) h.back ∙ ap (λ m. k.front ++ m) (append_assoc part k.back h.back))
      ∙ sym (append_assoc h.front k.front (part ++ (k.back ++ h.back)));
}

-- what stands before a mark is a part, and what stands behind it
pub holds-front : (text front mark back : List ℕ) → text ≡ front ++ (mark ++ back) → Holds text front
holds-front text front mark back e = record { front = []; back = mark ++ back; parts = e }

pub holds-back : (text front mark back : List ℕ) → text ≡ front ++ (mark ++ back) → Holds text back
holds-back text front mark back e = record {
  front = front ++ mark;
  back = [];
  parts = e ∙ sym (append_assoc front mark back) ∙ ap (λ m. (front ++ mark) ++ m) (sym (append-nil back));
}

-- what is a part of a part, where it is there
pub holds-some : (text middle : List ℕ) (part : Option (Bor (List ℕ))) → Holds text middle → IfSome part (λ p. Holds middle p.now) → IfSome part (λ p. Holds text p.now)
holds-some text middle None h k = k
holds-some text middle (Some p) h k = holds-both text middle p.now h k
