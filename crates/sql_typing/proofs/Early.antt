-- The checks before that of 128 bits find no other fault.
use Rattle.std.proofs.Common.{◌≡◌, ℕ, ◌+◌, ◌==◌, Bool, true, false, not, length, List, [], ◌∷◌, Option, Some, None, IfSome, inl, inr, subst}
use Rattle.std.specs.Prelude.{codes, nat_lt}
use Rattle.std.specs.Str.{bytes_eq}
use Rattle.daq_table.specs.declared.head.ColumnHead.{ColumnHead}
use Rattle.daq_table.specs.declared.head.Kind.{Kind}
use Rattle.daq_table.specs.declared.table_head.Head as heads
use Rattle.query_model.specs.declared.query.Shape.{Shape}
use Rattle.sql_text.specs.Tree.{Name, Expr, Item, Head, Operand, Pred, Ending, Query, Column, Number, Add, Sub, Mul, Plain, CountAll, Call, Items, Star, Compare, Columns, Between, OneOf, IsNull, Negation, Both, Either, Nothing, Grouped, Ordered}
use Rattle.sql_typing.specs.Faults.{aggregates_in, argument_fault, ending_fault, expr_fault, fault_if, filter_fault, first_fault, first_in, first_of, group_bits, group_fault, head_fault, is_grouped, is_limit, is_too_fine, item_fault, items_fault, name_fault, pred_fault, shape_fault, table_fault, text_fault, too_many_columns, too_many_items, unknown_at, value_fault, values_fault}
use Rattle.sql_typing.specs.Kinds.{can_compare, is_number, most_scale, place_of_operand, scale_of_kind, suits}
use Rattle.sql_typing.specs.Names.{kind_of, names_in, place_of}
use Rattle.sql_typing.specs.Parts.{IsFault}
use Rattle.sql_typing.specs.Refusals.{Refuses}
use Rattle.sql_typing.specs.Typing.{columns_of, scale_of, typed_ending, whole_column}
use Rattle.sql_typing.specs.declared.fault.TypeFault.{TypeFault}
use Rattle.sql_typing.specs.declared.fault.TypeFault.TheVariants.{UnknownTable, UnknownColumn, TooManyColumns, TooManyItems, KindsDiffer, ScaleTooFine, NotGrouped, TooManyValues, LimitOutOfRange, GroupTooWide, TooWide, NoMemory}

abbrev pub IsEarly : TypeFault → Type 0
IsEarly (UnknownTable at) = Unit {0}
IsEarly (UnknownColumn at) = Unit {0}
IsEarly TooManyColumns = Unit {0}
IsEarly TooManyItems = Unit {0}
IsEarly (KindsDiffer at) = Unit {0}
IsEarly (ScaleTooFine at) = Unit {0}
IsEarly (NotGrouped at) = Unit {0}
IsEarly (TooManyValues at) = Unit {0}
IsEarly (LimitOutOfRange at) = Unit {0}
IsEarly (GroupTooWide bits) = Unit {0}
IsEarly (TooWide item) = ⊥
IsEarly NoMemory = ⊥

early_of : (a b : Option TypeFault) → IfSome a IsEarly → IfSome b IsEarly → IfSome (first_of a b) IsEarly
early_of None b h k = k
early_of (Some fault) b h k = h

early_if : (test : Bool) (fault : TypeFault) → IsEarly fault → IfSome (fault_if test fault) IsEarly
early_if true fault h = h
early_if false fault h = tt

early_in : {A : Type 0} (check : A → Option TypeFault) → ((x : A) → IfSome (check x) IsEarly) → (xs : List A) → IfSome (first_in check xs) IsEarly
early_in check h [] = tt
early_in check h (x ∷ xs) = early_of (check x) (first_in check xs) (h x) (early_in check h xs)

early_unknown : (at : ℕ) (o : Option ℕ) → IfSome (unknown_at at o) IsEarly
early_unknown at None = tt
early_unknown at (Some c) = tt

early_expr : (table : List ColumnHead) (e : Expr) → IfSome (expr_fault table e) IsEarly
early_expr table (Column n) = early_of (fault_if (not (is_number (kind_of table n.name))) (KindsDiffer n.at)) (fault_if (nat_lt most_scale (scale_of_kind (kind_of table n.name))) (ScaleTooFine n.at))
    (early_if (not (is_number (kind_of table n.name))) (KindsDiffer n.at) tt) (early_if (nat_lt most_scale (scale_of_kind (kind_of table n.name))) (ScaleTooFine n.at) tt)
early_expr table (Number v) = early_if (nat_lt most_scale v.scale) (ScaleTooFine v.at) tt
early_expr table (Add a b) = early_of (expr_fault table a) (expr_fault table b) (early_expr table a) (early_expr table b)
early_expr table (Sub a b) = early_of (expr_fault table a) (expr_fault table b) (early_expr table a) (early_expr table b)
early_expr table (Mul at a b) = early_of (expr_fault table a) (first_of (fault_if (nat_lt most_scale (scale_of table (Mul at a b))) (ScaleTooFine at)) (expr_fault table b)) (early_expr table a)
    (early_of (fault_if (nat_lt most_scale (scale_of table (Mul at a b))) (ScaleTooFine at)) (expr_fault table b) (early_if (nat_lt most_scale (scale_of table (Mul at a b))) (ScaleTooFine at) tt) (early_expr table b))

early_argument : (table : List ColumnHead) (o : Option Name) (e : Expr) → IfSome (argument_fault table o e) IsEarly
early_argument table None e = early_expr table e
early_argument table (Some n) e = tt

early_item : (table : List ColumnHead) (groups : List Name) (i : Item) → IfSome (item_fault table groups i) IsEarly
early_item table groups (Plain n) = early_if (not (is_grouped groups n)) (NotGrouped n.at) tt
early_item table groups CountAll = tt
early_item table groups (Call kind e) = early_argument table (whole_column kind e) e

early_head : (table : List ColumnHead) (groups : List Name) (h : Head) → IfSome (head_fault table groups h) IsEarly
early_head table groups (Items is) = early_in (item_fault table groups) (early_item table groups) is
early_head table groups Star = tt

early_items : (table : List ColumnHead) (ending : Ending) (h : Head) → IfSome (items_fault table ending h) IsEarly
early_items table Nothing h = early_head table [] h
early_items table (Grouped ns) h = early_head table ns h
early_items table (Ordered key down limit) h = tt

early_value : (kind : Kind) (v : Operand) → IfSome (value_fault kind v) IsEarly
early_value kind v = early_of (fault_if (not (suits kind v)) (KindsDiffer (place_of_operand v))) (fault_if (is_too_fine kind v) (ScaleTooFine (place_of_operand v)))
    (early_if (not (suits kind v)) (KindsDiffer (place_of_operand v)) tt) (early_if (is_too_fine kind v) (ScaleTooFine (place_of_operand v)) tt)

early_values : (kind : Kind) (before : ℕ) (vs : List Operand) → IfSome (values_fault kind before vs) IsEarly
early_values kind before [] = tt
early_values kind before (v ∷ vs) = early_of (value_fault kind v) (first_of (fault_if (before == 64) (TooManyValues (place_of_operand v))) (values_fault kind (before + 1) vs)) (early_value kind v)
    (early_of (fault_if (before == 64) (TooManyValues (place_of_operand v))) (values_fault kind (before + 1) vs) (early_if (before == 64) (TooManyValues (place_of_operand v)) tt) (early_values kind (before + 1) vs))

early_pred : (table : List ColumnHead) (a : Pred) → IfSome (pred_fault table a) IsEarly
early_pred table (Compare n op v) = early_value (kind_of table n.name) v
early_pred table (Columns l op r) = early_if (not (can_compare (kind_of table l.name) (kind_of table r.name))) (KindsDiffer r.at) tt
early_pred table (Between n low high) = early_of (value_fault (kind_of table n.name) low) (value_fault (kind_of table n.name) high) (early_value (kind_of table n.name) low) (early_value (kind_of table n.name) high)
early_pred table (OneOf n vs) = early_values (kind_of table n.name) 0 vs
early_pred table (IsNull n) = tt
early_pred table (Negation a) = early_pred table a
early_pred table (Both a b) = early_of (pred_fault table a) (pred_fault table b) (early_pred table a) (early_pred table b)
early_pred table (Either a b) = early_of (pred_fault table a) (pred_fault table b) (early_pred table a) (early_pred table b)

early_filter : (table : List ColumnHead) (o : Option Pred) → IfSome (filter_fault table o) IsEarly
early_filter table None = tt
early_filter table (Some a) = early_pred table a

early_ending : (e : Ending) → IfSome (ending_fault e) IsEarly
early_ending Nothing = tt
early_ending (Grouped ns) = tt
early_ending (Ordered key down limit) = early_if (not (is_limit limit)) (LimitOutOfRange limit.at) tt

early_text : (table : List ColumnHead) (q : Query) → IfSome (text_fault table q) IsEarly
early_text table q = early_of (items_fault table q.ending q.head) (first_of (filter_fault table q.pred) (ending_fault q.ending)) (early_items table q.ending q.head)
    (early_of (filter_fault table q.pred) (ending_fault q.ending) (early_filter table q.pred) (early_ending q.ending))

early_groups : (table : List ColumnHead) (columns : List ℕ) (shape : Shape) → IfSome (shape_fault table columns shape) IsEarly
early_groups table columns shape = early_if (nat_lt 16 (group_bits table columns shape)) (GroupTooWide (group_bits table columns shape)) tt

early_six : (a b c d e f : Option TypeFault) → IfSome a IsEarly → IfSome b IsEarly → IfSome c IsEarly → IfSome d IsEarly → IfSome e IsEarly → IfSome f IsEarly
    → IfSome (first_of a (first_of b (first_of c (first_of d (first_of e f))))) IsEarly
early_six a b c d e f ha hb hc hd he hf = early_of a (first_of b (first_of c (first_of d (first_of e f)))) ha (early_of b (first_of c (first_of d (first_of e f))) hb
    (early_of c (first_of d (first_of e f)) hc (early_of d (first_of e f) hd (early_of e f he hf))))

pub early : (table : List ColumnHead) (q : Query) → IfSome (first_fault table q) IsEarly
early table q = early_six (table_fault q.table) (first_in (name_fault table) (names_in q)) (too_many_columns table q) (too_many_items q) (text_fault table q) (group_fault table q)
    (early_if (not (bytes_eq q.table.name (codes "t"))) (UnknownTable q.table.at) tt)
    (early_in (name_fault table) (λ n. early_unknown n.at (place_of table n.name)) (names_in q))
    (early_if (nat_lt 16 (length (columns_of table q))) TooManyColumns tt)
    (early_if (nat_lt 16 (aggregates_in q.head)) TooManyItems tt)
    (early_text table q)
    (early_groups table (columns_of table q) (typed_ending table (columns_of table q) q.ending))

no_late : (first : Option TypeFault) (i : ℕ) → IfSome first IsEarly → first ≡ Some (TooWide i) → ⊥
no_late first i h e = subst (λ (o : Option TypeFault). IfSome o IsEarly) e h

-- the first fault that was found is what it says
pub refused : (q : Query) (head : heads.Head) (fault : TypeFault) → IsFault fault (first_fault head.columns q) → Refuses q head fault
refused q head NoMemory h = tt
refused q head (TooWide i) (inl e) = absurd cc
refused q head (TooWide i) (inr e) = absurd (no_late (first_fault head.columns q) i (early head.columns q) e)
refused q head (UnknownTable at) (inl e) = absurd cc
refused q head (UnknownTable at) (inr e) = e
refused q head (UnknownColumn at) (inl e) = absurd cc
refused q head (UnknownColumn at) (inr e) = e
refused q head TooManyColumns (inl e) = absurd cc
refused q head TooManyColumns (inr e) = e
refused q head TooManyItems (inl e) = absurd cc
refused q head TooManyItems (inr e) = e
refused q head (KindsDiffer at) (inl e) = absurd cc
refused q head (KindsDiffer at) (inr e) = e
refused q head (ScaleTooFine at) (inl e) = absurd cc
refused q head (ScaleTooFine at) (inr e) = e
refused q head (NotGrouped at) (inl e) = absurd cc
refused q head (NotGrouped at) (inr e) = e
refused q head (TooManyValues at) (inl e) = absurd cc
refused q head (TooManyValues at) (inr e) = e
refused q head (LimitOutOfRange at) (inl e) = absurd cc
refused q head (LimitOutOfRange at) (inr e) = e
refused q head (GroupTooWide bits) (inl e) = absurd cc
refused q head (GroupTooWide bits) (inr e) = e
