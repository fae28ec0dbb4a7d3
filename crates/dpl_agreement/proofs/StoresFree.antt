-- A store that holds no `Locales` goes on to hold none.
-- All that hangs on how a store is made stands here: what a name holds, is changed to and is declared to, scopes, domains.
use Rattle.std.proofs.Common.{List, [], ◌∷◌}
use Rattle.std.specs.Prelude.{bytes_eq}
use Rattle.dpl_sets.specs.TextRanges.{TextRange}
use Rattle.dpl_language.specs.Values.{Domain}
use Rattle.dpl_language.specs.Environment.{Content, Plain}
use Rattle.dpl_language.specs.Names.{Text, Opened, Declared, Store, look_up, change_in, without_innermost, redomain_content, redomain_in}
use Rattle.dpl_agreement.proofs.UntaskedValues.{NoLocalesIn}
use Rattle.dpl_agreement.proofs.ContentsFree.{if-holds, redomain_content-free}

abbrev pub FreeStore : Store → Type 0
FreeStore [] = Unit {0}
FreeStore (Opened ∷ es) = FreeStore es
FreeStore (Declared e ∷ es) = NoLocalesIn e.content × FreeStore es

-- a program's first store, and one with a scope opened
pub first-free : FreeStore (Opened ∷ [])
first-free = tt

pub entered-free : (es : Store) → FreeStore es → FreeStore (Opened ∷ es)
entered-free es h = h

pub look_up-free : (x : Text) (es : Store) → FreeStore es → NoLocalesIn (look_up x es)
look_up-free x [] h = tt
look_up-free x (Opened ∷ es) h = look_up-free x es h
look_up-free x (Declared e ∷ es) h = if-holds NoLocalesIn (bytes_eq x e.name) e.content (look_up x es) h.0 (look_up-free x es h.1)

pub change_in-free : (x : Text) (change : Content Text → Content Text) → ((c : Content Text) → NoLocalesIn c → NoLocalesIn (change c)) → (es : Store) → FreeStore es → FreeStore (change_in x change es)
change_in-free x change p [] h = tt
change_in-free x change p (Opened ∷ es) h = change_in-free x change p es h
change_in-free x change p (Declared e ∷ es) h =
    if-holds FreeStore (bytes_eq x e.name) (Declared (record e { content = change e.content }) ∷ es) (Declared e ∷ change_in x change es)
    (p e.content h.0, h.1) (h.0, change_in-free x change p es h.1)

pub declared-free : (x : Text) (c : Content Text) (es : Store) → FreeStore es → NoLocalesIn c → FreeStore (Declared (record { name = x; content = c }) ∷ es)
declared-free x c es h k = (k, h)

pub without_innermost-free : (es : Store) → FreeStore es → FreeStore (without_innermost es)
without_innermost-free [] h = tt
without_innermost-free (Opened ∷ es) h = h
without_innermost-free (Declared e ∷ es) h = without_innermost-free es h.1

pub redomain_in-free : (x : Text) (new : List TextRange) (es : Store) → FreeStore es → FreeStore (redomain_in x new es)
redomain_in-free x new [] h = tt
redomain_in-free x new (Opened ∷ es) h = redomain_in-free x new es h
redomain_in-free x new (Declared e ∷ es) h =
    if-holds FreeStore (bytes_eq x e.name) (Declared (record e { content = Plain (Domain new) }) ∷ es) (Declared (record e { content = redomain_content x new e.content }) ∷ redomain_in x new es)
    (tt, h.1) (redomain_content-free x new e.content h.0, redomain_in-free x new es h.1)
