-- What workers leave besides arrays.
use Rattle.std.specs.Prelude.{ℕ, ◌==◌, ℤ, pos, if◌then◌else◌, List, [], ◌∷◌, ◌++◌, map, get_or}
use Rattle.dpl_language.specs.Tree.{Op}
use Rattle.dpl_memory.specs.Memory.{Memory}
use Rattle.dpl_apart.specs.Operands.{combined_words}
use Rattle.dpl_apart.specs.Memories.{with_words}
use Rattle.dpl_frame.specs.Shares.{Plain}
use Rattle.dpl_workers.specs.declared.job.Worked.{Worked}

-- the word of a reduce variable, to which what each worker has added is put, one after another
abbrev pub word_left : ℕ × Op → List Worked → ℤ → ℤ
word_left p [] w = w
word_left p (v ∷ vs) w = word_left p vs (combined_words p.1 w (get_or v.words.numbers p.0 (pos 0)))

-- so of all reduce variables of a memory
abbrev pub words_left : List (ℕ × Op) → List Worked → Memory → List ℤ
words_left ps ws m = map (λ (p : ℕ × Op). word_left p ws (get_or m.words.numbers p.0 (pos 0))) ps

-- and so behind other words, one after another
abbrev pub words_behind : List ℤ → List (ℕ × Op) → List Worked → Memory → List ℤ
words_behind ns [] ws m = ns
words_behind ns (p ∷ ps) ws m = words_behind (ns ++ word_left p ws (get_or m.words.numbers p.0 (pos 0)) ∷ []) ps ws m

-- a memory with words of reduce variables
abbrev pub reduced_to : List (ℕ × Op) → List ℤ → Memory → Memory
reduced_to ps ws m = record m { words = record m.words { numbers = with_words ps ws m.words.numbers } }

-- what the worker of a locale has left; where it has none, another thing
abbrev pub words_by : ℕ → List Worked → Plain → Plain
words_by l [] p = p
words_by l (w ∷ ws) p = words_by l ws (if w.locale == l then w.words else p)
