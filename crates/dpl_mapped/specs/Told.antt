-- What the parts of a map owe, as the code looks at them: what ends in `low` by what stands before that, and tuples as arguments.
-- Each is a part of a rule of dpl_rules, or comes to the same first breach.
use Rattle.std.specs.Prelude.{ℕ, Bool, true, false, ◌&&◌, if◌then◌else◌, List, ◌++◌, length, Option, Some, None, option_map}
use Rattle.dpl_syntax.specs.declared.place.Place.{Place}
use Rattle.dpl_syntax.specs.declared.refusal.Breach.{Breach}
use Rattle.dpl_syntax.specs.declared.refusal.Code.TheVariants.{WrongType}
use Rattle.dpl_language.specs.Names.{Text}
use Rattle.dpl_language.specs.Phrases.{base_of}
use Rattle.dpl_language.specs.Tree.{Word, Low, LowBound, ExprTree, Postfixed, Posts, NoPosts, Post, Exprs}
use Rattle.dpl_tree.specs.View.{expr_view, posts_of}
use Rattle.dpl_rules.specs.Types.{ValueType, is_int}
use Rattle.dpl_rules.specs.Verdicts.{Verdict, type_by, broken_by, breach, with_type, each_wanted}
use Rattle.dpl_rules.specs.Places.{first_of}
use Rattle.dpl_rules.specs.Sights.{Scopes}
use Rattle.dpl_rules.specs.Deeds.{Deed, base_deeds, expr_deeds, posts_deeds}
use Rattle.dpl_rules.specs.Operators.{word_verdict}
use Rattle.dpl_rules.specs.Declarations.{domain_in}
use Rattle.dpl_rules.specs.Expressions.{type_of, expr_parts, expr_breaches, exprs_breaches}
use Rattle.dpl_rules.specs.Maps.{LowTree, owed_rank, int_start}
use Rattle.dpl_mapped.specs.declared.low.Low.{Low as LowNode}
use Rattle.dpl_mapped.specs.declared.low.LowLast.{LowLast}
use Rattle.dpl_mapped.specs.declared.low.FoundDomain.{FoundDomain}

-- a base and what stands behind it; where nothing does, the base itself
abbrev pub standing : ExprTree Text → Posts Text → ExprTree Text
standing e NoPosts = e
standing e (Post p rest) = Postfixed e (Post p rest)

-- `low` or `lowBound` behind an expression, and what ends in one of them behind a base
abbrev pub bound_word : Bool → Word
bound_word true = LowBound
bound_word false = Low

abbrev pub low_at : ExprTree Text → LowNode → LowTree
low_at e l = record { of = e; at = l.at; bound = l.bound }

abbrev pub low_view : ExprTree Text → Option LowNode → Option LowTree
low_view e None = None
low_view e (Some l) = Some (low_at e l)

abbrev pub low_last_view : ExprTree Text → Option LowLast → Option LowTree
low_last_view e None = None
low_last_view e (Some l) = Some (low_at (Postfixed e (posts_of l.behind.now)) l.low)

-- the rank of a domain, and whether it is strided
abbrev pub dimensions_of : FoundDomain → ℕ × Bool
dimensions_of d = (d.rank, d.strided)

abbrev pub dimensions_in : Option FoundDomain → Option (ℕ × Bool)
dimensions_in d = option_map dimensions_of d

-- what `low` or `lowBound` owes behind a domain
abbrev pub low_told : Option ℕ → Place → ℕ → Bool → LowNode → List Breach
low_told rank word found strided l = if l.bound && strided then breach l.at WrongType else owed_rank rank found word

-- what it says behind whatever has a type, and what it owes where a map starts
abbrev pub low_verdict : LowNode → Option ValueType → Verdict
low_verdict l t = with_type t (word_verdict l.at (bound_word l.bound))

abbrev pub ended_by : Option ℕ → Place → Place → LowNode → Option ValueType → Option (ℕ × Bool) → List Breach
ended_by rank word at l t None = broken_by (low_verdict l t) ++ int_start rank word at (type_by (low_verdict l t))
ended_by rank word at l t (Some d) = low_told rank word d.0 d.1 l

-- what stands before it, behind a base, and as it stands for itself; what that does goes by all that stands behind the base
abbrev pub front_tree : LowLast → ExprTree Text
front_tree l = Postfixed (expr_view l.base.now) (posts_of l.behind.now)

abbrev pub front_standing : LowLast → ExprTree Text
front_standing l = standing (expr_view l.base.now) (posts_of l.behind.now)

abbrev pub front_deeds : Scopes → LowLast → List Deed
front_deeds scopes l =
    let e = expr_view l.base.now in
    base_deeds scopes (base_of e) (posts_of l.posts.now) (expr_deeds scopes e) ++ posts_deeds scopes (posts_of l.behind.now)

abbrev pub ended_told : Scopes → Option ℕ → Place → LowLast → List Breach
ended_told scopes rank word l =
    let of = front_tree l in
    expr_breaches scopes of ++ ended_by rank word (first_of (expr_view l.base.now)) l.low (type_of scopes of) (domain_in (type_of scopes of))

-- a tuple of ints, as many as the rank
abbrev pub tuple_told : Scopes → Option ℕ → Place → Exprs Text → List Breach
tuple_told scopes rank word es =
    exprs_breaches scopes es ++ each_wanted is_int (expr_parts scopes es) ++ owed_rank rank (length (expr_parts scopes es)) word
