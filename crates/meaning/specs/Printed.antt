-- The texts of a dimension, a kind and a refusal.
use Rattle.std.specs.Prelude.{ℕ, List, ◌++◌, codes, decimal}
use Rattle.meaning.specs.declared.Dimension.{Dimension}
use Rattle.meaning.specs.declared.Dimension.TheVariants.{Xy, Xyz, Xym, Xyzm}
use Rattle.meaning.specs.declared.Kind.{Kind}
use Rattle.meaning.specs.declared.Kind.TheVariants.{Ring, Point, LineString, Polygon, MultiPoint, MultiLineString, MultiPolygon, GeometryCollection}
use Rattle.meaning.specs.declared.Refusal.{Refusal}
use Rattle.meaning.specs.Answer.{numbered}

-- the names of "k 0 to 3 (Xy, Xyz, Xym, Xyzm)"
abbrev pub dimension_name : Dimension → List ℕ
dimension_name Xy = codes "Xy"
dimension_name Xyz = codes "Xyz"
dimension_name Xym = codes "Xym"
dimension_name Xyzm = codes "Xyzm"

-- the names of the kinds "0 ring" and "t 1 to 7"
abbrev pub kind_name : Kind → List ℕ
kind_name Ring = codes "Ring"
kind_name Point = codes "Point"
kind_name LineString = codes "LineString"
kind_name Polygon = codes "Polygon"
kind_name MultiPoint = codes "MultiPoint"
kind_name MultiLineString = codes "MultiLineString"
kind_name MultiPolygon = codes "MultiPolygon"
kind_name GeometryCollection = codes "GeometryCollection"

-- number and place, in decimal
abbrev pub refusal_text : Refusal → List ℕ
refusal_text x = codes "refused " ++ decimal (numbered x).0 ++ codes " " ++ decimal (numbered x).1
